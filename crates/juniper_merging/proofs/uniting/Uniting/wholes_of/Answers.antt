use Rattle.std.proofs.Common.{sym, subst, get_or}
use Rattle.std.specs.Prelude.{take}
use Rattle.std.proofs.lemmas.Grind.{get_or_default_zero}
use Rattle.std.proofs.lemmas.List.{take_all}
use Rattle.juniper_merging.specs.United.{AreWholesMade}
use Rattle.juniper_merging.proofs.Making.{no-wholes, one-whole}
use Rattle.juniper_merging.proofs.Passed.{one-more}
use Rattle.juniper_merging.proofs.uniting.Uniting.wholes_of.Goals as goal

pub loop-part-init : goal.loop-part-init
loop-part-init c vs t H is = no-wholes vs t H c.args.self.now c.in_ok-wholes.wholes.items c.in_ok-wholes.ensures.items is

pub loop-part-preserved : goal.loop-part-preserved
loop-part-preserved c vs t =
    let parts = c.args.parts.now in
    let i = c.loop-part.part-index in
    let x = get_or parts i 0 in
    subst (λ l. AreWholesMade vs t c.args.self.now c.single_node.new.self l c.push.new.self.items)
    (sym (one-more parts i x c.loop-part-test.true (sym (get_or_default_zero parts i x c.loop-part-test.true))))
    (λ H is.
    let r = c.loop-part.invariant vs t H is in
    let s = c.in_ok-whole.ensures vs t r.0 r.3 in
    one-whole vs t H r.0 s.0 c.args.self.now c.loop-part.self c.single_node.new.self (take i parts) c.loop-part.wholes.items c.push.new.self.items x
    c.in_ok-whole.whole r.1 r.2 r.4.0 r.4.1 s.1 s.2 s.3 s.4.0 s.4.1 c.in_ok-push.ensures.items)

pub returns : goal.returns
returns c vs t = subst (λ l. AreWholesMade vs t c.args.self.now c.loop-part.self l c.loop-part.wholes.items)
    (take_all c.loop-part.part-index c.args.parts.now c.loop-part-test.false) (c.loop-part.invariant vs t)
