use Rattle.std.proofs.Common.{refl}
use Rattle.juniper_meta.proofs.declaration.Field.deprecated.Goals as goal

pub returns : goal.returns
returns g c = refl
