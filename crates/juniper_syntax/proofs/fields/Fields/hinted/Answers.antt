use Rattle.juniper_syntax.proofs.FirstKeys.{zip-none}
use Rattle.juniper_syntax.proofs.fields.Fields.hinted.Goals as goal

pub returns : goal.returns
returns g c = zip-none c.args.keys.value c.in_ok-values.values.items c.in_ok-values.ensures.items
