use Rattle.juniper_registry.proofs.Plain.{same_input}
use Rattle.juniper_registry.proofs.registry.Registry.arg.Goals as goal

pub returns-clause-made : goal.returns-clause-made
returns-clause-made g c = same_input _ _ _ _ _ c.new.ensures c.in_ok-own.ensures.ok c.in_ok-get_type.ensures.referred
