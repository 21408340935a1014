use Rattle.std.specs.Vec.Iter.{into_iter_items}
use Rattle.juniper_intro.proofs.Users.{AreRooted}
use Rattle.juniper_intro.proofs.rooted.rooted_answers.Given as goal

-- what is made goes before what is left
abbrev pub invariant-loop-answer : goal.invariant-loop-answer
invariant-loop-answer g l =
    AreRooted g.S.ScalarValue.shown l.made.items (into_iter_items l.answer-iterator) (into_iter_items l.initial.answer-iterator)
