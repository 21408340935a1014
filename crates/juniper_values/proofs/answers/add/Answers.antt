use Rattle.juniper_values.proofs.Sums.{some_sum, no_sum}
use Rattle.juniper_values.proofs.answers.add.Goals as goal

pub returns-in-Some : goal.returns-in-Some
returns-in-Some c = some_sum c.args.left c.args.right c.in-Some.sum c.ranges.left c.ranges.right c.in-Some.ensures.0 c.in-Some.ensures.1

pub returns-in-None : goal.returns-in-None
returns-in-None c = no_sum c.args.left c.args.right c.ranges.left c.ranges.right c.in-None.ensures
