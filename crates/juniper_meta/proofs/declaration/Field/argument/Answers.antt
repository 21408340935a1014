use Rattle.std.proofs.Common.{refl}
use Rattle.juniper_meta.proofs.declaration.Field.argument.Goals as goal

pub returns : goal.returns
returns g c = rw c.in_ok-arguments.ensures refl
