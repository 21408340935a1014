use Rattle.std.proofs.Common.{get_or, subst, sym}
use Rattle.std.proofs.lemmas.Grind.{get_or_default_zero}
use Rattle.std.proofs.lemmas.List.{take_all}
use Rattle.juniper_merging.specs.Nodes.{SaysBoth, flat}
use Rattle.juniper_merging.proofs.Beside.{no-parts, parts-more}
use Rattle.juniper_merging.proofs.conflicts.Conflicts.with_parts.Goals as goal

pub loop-part-init : goal.loop-part-init
loop-part-init c vs H known = no-parts vs H (H c.args.other)

pub loop-part-preserved : goal.loop-part-preserved
loop-part-preserved c vs H known =
    let ps = c.args.parts.now in
    let i = c.loop-part.part-index in
    let p = get_or ps i 0 in
    parts-more vs H ps i p c.args.other c.loop-part.found c.in_ok-clash.clash c.worse-found.result c.loop-part-test.true
    (sym (get_or_default_zero ps i p c.loop-part-test.true)) c.worse-found.ensures (c.loop-part.invariant vs H known) (c.in_ok-clash.ensures vs H known)

pub returns : goal.returns
returns c vs H known =
    subst (λ l. SaysBoth vs (flat H l) (H c.args.other) c.loop-part.found)
    (take_all c.loop-part.part-index c.args.parts.now c.loop-part-test.false) (c.loop-part.invariant vs H known)
