use Rattle.std.proofs.Common.{subst}
use Rattle.std.specs.Vec.Iter.{into_iter_items}
use Rattle.juniper_intro.proofs.Rooting.{none_left}
use Rattle.juniper_intro.proofs.Users.{AllRooted, rooted-all, rooted-end, rooted-start, rooted-turn}
use Rattle.juniper_intro.proofs.rooted.rooted_answers.Goals as goal

pub loop-answer-init : goal.loop-answer-init
loop-answer-init g c = rooted-start g.S.ScalarValue.shown _ _ c.in_ok-made.ensures.items

pub loop-answer-preserved : goal.loop-answer-preserved
loop-answer-preserved g c =
    rooted-turn g.S.ScalarValue.shown _ _ _ _ _ _ _ c.loop-answer.invariant c.in-Some.ensures.steps.0 c.in_ok-push.ensures.items
    c.rooted_answer-seen.ensures.answer

pub returns : goal.returns
returns g c = λ reply nodes all.
    let shown = g.S.ScalarValue.shown in
    let it = c.loop-answer.answer-iterator in
    let out = none_left (into_iter_items it) it.rest.len it.rest.ok.0 c.in-None.ensures.steps.0 in
    rooted-all shown reply nodes _ _ (subst (λ l. AllRooted shown l c.loop-answer.made.items) c.into_iter-answer-iterator.ensures.into_iter_gives.0
    (rooted-end shown _ _ _ out c.loop-answer.invariant)) all
