use Rattle.std.proofs.Common.{rules}
use Rattle.juniper_meta.specs.MetaView.{view_meta}
use Rattle.juniper_meta.proofs.meta.MetaType.name.Goals as goal

pub returns-in-Union : goal.returns-in-Union
unfolding view_meta
returns-in-Union g c = search rules
