use Rattle.juniper_registry.proofs.registry.Registry.build_union_type.Goals as goal

pub returns : goal.returns
returns g c = rw c.in_ok-own_name.ensures c.new.ensures
