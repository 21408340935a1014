use Rattle.std.proofs.Common.{refl, sym, ap, ◌∙◌}
use Rattle.std.specs.Str.{bytes_eq}
use Rattle.juniper_walk.proofs.Kept.{none-found, one-found, one-passed}
use Rattle.juniper_walk.proofs.plan.find_made.Goals as goal

pub loop-below-init : goal.loop-below-init
loop-below-init c = refl

pub loop-below-preserved : goal.loop-below-preserved
loop-below-preserved c =
    one-passed c.args.concrete.now c.args.made.now c.loop-below.below-index c.below-item.result c.loop-below-test.true c.below-item.is
    (ap (λ n. bytes_eq n c.args.concrete.now) (sym c.as_str.ensures.value) ∙ (sym c.eq.ensures ∙ c.if-eq.false)) c.loop-below.invariant

pub returns-then-eq : goal.returns-then-eq
returns-then-eq c =
    one-found c.args.concrete.now c.args.made.now c.loop-below.below-index c.below-item.result c.loop-below-test.true c.below-item.is
    (ap (λ n. bytes_eq n c.args.concrete.now) (sym c.as_str.ensures.value) ∙ (sym c.eq.ensures ∙ c.if-eq.true)) c.loop-below.invariant

pub returns : goal.returns
returns c = none-found c.args.concrete.now c.args.made.now c.loop-below.below-index c.loop-below-test.false c.loop-below.invariant
