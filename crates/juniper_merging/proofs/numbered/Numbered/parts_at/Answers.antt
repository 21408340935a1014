use Rattle.std.proofs.Common.{sym, subst, get_or}
use Rattle.std.specs.Prelude.{take}
use Rattle.std.proofs.lemmas.Grind.{get_or_default_zero}
use Rattle.juniper_merging.specs.Numbered.{ArePartsAt}
use Rattle.juniper_merging.proofs.Numbering.{more-parts-at}
use Rattle.juniper_merging.proofs.Passed.{one-more}
use Rattle.juniper_merging.proofs.numbered.Numbered.parts_at.Goals as goal

pub loop-part-preserved : goal.loop-part-preserved
loop-part-preserved c =
    let parts = c.args.parts.now in
    let numbers = c.args.self.now.numbers.items in
    let i = c.loop-part.part-index in
    let x = get_or parts i 0 in
    subst (λ l. ArePartsAt numbers l c.push.new.self.items)
    (sym (one-more parts i x c.loop-part-test.true (sym (get_or_default_zero parts i x c.loop-part-test.true))))
    (more-parts-at numbers (take i parts) c.loop-part.found.items c.push.new.self.items x c.in_ok-place.place c.loop-part.invariant c.in_ok-place.ensures
    c.in_ok-push.ensures.items)
