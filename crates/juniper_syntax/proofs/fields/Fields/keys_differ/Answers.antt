use Rattle.juniper_syntax.proofs.fields.Fields.keys_differ.Goals as goal

pub returns : goal.returns
returns g c = c.own_keys.ensures.unique
