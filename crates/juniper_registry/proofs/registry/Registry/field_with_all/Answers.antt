use Rattle.std.proofs.Common.{refl}
use Rattle.juniper_registry.proofs.Plain.{made_field}
use Rattle.juniper_registry.proofs.registry.Registry.field_with_all.Goals as goal

pub returns-clause-made : goal.returns-clause-made
returns-clause-made g c = made_field _ _ _ _ _ _ c.in_ok-own.ensures.ok refl c.in_ok-field_type.ensures.referred
