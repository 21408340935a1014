use Rattle.juniper_registry.proofs.registry.Registry.build_scalar_type.Goals as goal

pub returns : goal.returns
returns g c = rw c.in_ok-own_name.ensures c.new.ensures
