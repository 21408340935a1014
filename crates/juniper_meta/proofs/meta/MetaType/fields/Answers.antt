use Rattle.std.proofs.Common.{rules}
use Rattle.graphql_spec.specs.Fields.{fields_of}
use Rattle.juniper_meta.specs.MetaView.{view_meta}
use Rattle.juniper_meta.proofs.meta.MetaType.fields.Goals as goal

pub returns-in-Interface : goal.returns-in-Interface
unfolding view_meta fields_of
returns-in-Interface g c = search rules
