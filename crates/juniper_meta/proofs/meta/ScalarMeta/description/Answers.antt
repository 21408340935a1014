use Rattle.std.proofs.Common.{refl}
use Rattle.juniper_meta.proofs.meta.ScalarMeta.description.Goals as goal

pub returns : goal.returns
returns c = refl
