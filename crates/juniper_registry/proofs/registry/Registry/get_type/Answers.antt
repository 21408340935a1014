use Rattle.juniper_registry.proofs.registry.Registry.get_type.Goals as goal

pub returns-clause-referred : goal.returns-clause-referred
returns-clause-referred g c = c.in_ok-reference.ensures
