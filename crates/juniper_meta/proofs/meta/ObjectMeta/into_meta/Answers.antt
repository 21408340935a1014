use Rattle.std.proofs.Common.{refl}
use Rattle.juniper_meta.specs.MetaView.{view_meta}
use Rattle.juniper_meta.proofs.meta.ObjectMeta.into_meta.Goals as goal

pub returns : goal.returns
unfolding view_meta
returns g c = refl
