use Rattle.juniper_meta.proofs.scalars.id_scalar.Goals as goal

pub returns : goal.returns
returns g c = c.scalar_named.ensures
