use Rattle.std.proofs.Common.{refl}
use Rattle.juniper_registry.proofs.registry.Registry.new.Goals as goal

pub returns : goal.returns
returns g c = refl
