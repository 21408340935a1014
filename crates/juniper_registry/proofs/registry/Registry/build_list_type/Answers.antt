use Rattle.juniper_registry.proofs.Plain.{same_list}
use Rattle.juniper_registry.proofs.registry.Registry.build_list_type.Goals as goal

pub returns-clause-built : goal.returns-clause-built
returns-clause-built g c = same_list _ _ _ _ c.new.ensures c.in_ok-get_type.ensures.referred
