use Rattle.std.proofs.Common.{refl}
use Rattle.juniper_registry.proofs.registry.Registry.into_types.Goals as goal

pub returns-clause-same : goal.returns-clause-same
returns-clause-same g c = refl

pub returns-clause-keyed : goal.returns-clause-keyed
returns-clause-keyed g c = c.args.self.keyed
