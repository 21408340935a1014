use Rattle.std.proofs.Common.{rules}
use Rattle.graphql_spec.specs.Fields.{leaf_accepts}
use Rattle.juniper_meta.specs.MetaView.{view_meta}
use Rattle.juniper_meta.proofs.meta.MetaType.accepts.Goals as goal

pub returns-in-Enum : goal.returns-in-Enum
unfolding view_meta leaf_accepts
returns-in-Enum g c = search rules
