use Rattle.std.proofs.Common.{◌≡◌, ◌∙◌, ◌+◌, ◌-◌, ℕ, ap, arith, drop, get_or, subst, sym}
use Rattle.std.proofs.lemmas.List.{drop_all}
use Rattle.juniper_walk.specs.PlanLists.{rises, rises_from}
use Rattle.juniper_walk.proofs.Alone.{none-rise, one-falls, one-rises}
use Rattle.juniper_walk.proofs.making.do_rise.Goals as goal

pub loop-index-init : goal.loop-index-init
loop-index-init c = none-rise c.args.numbers.now

pub loop-index-preserved : goal.loop-index-preserved
loop-index-preserved c =
    let numbers = c.args.numbers.now in
    let i = c.loop-index.index in
    subst (λ (j : ℕ). rises numbers ≡ rises_from (get_or numbers j 0) (drop (i + 1) numbers)) {x = i} {y = i + 1 - 1} (omega arith)
    (one-rises numbers i c.loop-index-test.true _ _ (omega (c.if-numbers-index.false, arith)) c.loop-index.invariant)

pub returns-then-numbers-index : goal.returns-then-numbers-index
returns-then-numbers-index c =
    sym (one-falls c.args.numbers.now c.loop-index.index c.loop-index-test.true _ _ c.if-numbers-index.true c.loop-index.invariant)

pub returns : goal.returns
unfolding rises_from
returns c =
    sym (c.loop-index.invariant ∙ ap (rises_from (get_or c.args.numbers.now (c.loop-index.index - 1) 0))
    (drop_all c.loop-index.index c.args.numbers.now c.loop-index-test.false))
