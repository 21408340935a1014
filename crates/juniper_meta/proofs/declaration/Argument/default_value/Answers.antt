use Rattle.std.proofs.Common.{refl}
use Rattle.juniper_meta.proofs.declaration.Argument.default_value.Goals as goal

pub returns : goal.returns
returns g c = refl
