use Rattle.std.proofs.Common.{subst}
use Rattle.juniper_values.specs.ResolvedView.{Answers}
use Rattle.juniper_words.proofs.Counts.{counted, too_many}
use Rattle.juniper_words.proofs.answers.count.Goals as goal

pub returns-in-Ok : goal.returns-in-Ok
returns-in-Ok g c =
    subst (Answers g.S.ScalarValue.shown c.int.result) (counted {N = g.row.N.Denot} c.args.number c.in-Ok.number c.in-Ok.ensures.0 c.in-Ok.ensures.1)
    c.int.ensures

pub returns-in-Err : goal.returns-in-Err
returns-in-Err g c = subst (Answers g.S.ScalarValue.shown c.fails.result) (too_many {N = g.row.N.Denot} c.args.number c.in-Err.ensures) c.fails.ensures
