use Rattle.juniper_walk.proofs.Entering.{given-spends}
use Rattle.juniper_walk.proofs.root.answer.Goals as goal

pub returns-clause-spent : goal.returns-clause-spent
returns-clause-spent g c =
    given-spends (Unit {0}) (Unit {0}) c.args.fields _ 0 _ c.in-Err.stop c.within.result c.in-Ok.ensures.left c.within.ensures c.in-Err.ensures.entered
