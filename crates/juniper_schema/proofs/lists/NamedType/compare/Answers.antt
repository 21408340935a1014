use Rattle.juniper_schema.proofs.lists.NamedType.compare.Goals as goal

pub returns : goal.returns
returns g c = c.cmp.ensures
