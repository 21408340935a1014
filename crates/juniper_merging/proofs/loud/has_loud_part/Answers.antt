use Rattle.std.proofs.Common.{◌≡◌, Some, false, get_or, sym}
use Rattle.std.specs.List.{slice_get}
use Rattle.std.proofs.lemmas.Grind.{get_or_default_zero}
use Rattle.juniper_merging.proofs.Looked.{all-before, none-before, one-before}
use Rattle.juniper_merging.proofs.loud.has_loud_part.Goals as goal

pub loop-part-init : goal.loop-part-init
loop-part-init c = none-before (λ p. slice_get c.args.loud.now p ≡ Some false) c.args.parts.now 0

pub loop-part-preserved : goal.loop-part-preserved
loop-part-preserved c =
    let parts = c.args.parts.now in
    let i = c.loop-part.part-index in
    one-before (λ p. slice_get c.args.loud.now p ≡ Some false) parts i (get_or parts i 0) c.loop-part-test.true
    (sym (get_or_default_zero parts i (get_or parts i 0) c.loop-part-test.true)) c.loop-part.invariant (c.is_loud_at.ensures c.if-is_loud_at.false)

pub returns : goal.returns
returns c e = all-before (λ p. slice_get c.args.loud.now p ≡ Some false) c.args.parts.now c.loop-part.part-index c.loop-part-test.false c.loop-part.invariant
