use Rattle.juniper_json.proofs.Ints.{narrow}
use Rattle.juniper_json.proofs.numbers.as_int.Goals as goal

pub returns : goal.returns
returns c = narrow c.args.wide c.try_from.result c.ok.result c.ranges.wide c.try_from.ensures c.ok.ensures.value
