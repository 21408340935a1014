use Rattle.std.proofs.Common.{get_or, subst, sym}
use Rattle.std.proofs.lemmas.Grind.{get_or_default_zero}
use Rattle.std.proofs.lemmas.List.{take_all}
use Rattle.juniper_merging.specs.Nodes.{Says, flat}
use Rattle.juniper_merging.proofs.Beside.{no-parts-within, parts-within-more}
use Rattle.juniper_merging.proofs.conflicts.Conflicts.parts_within.Goals as goal

pub loop-place-init : goal.loop-place-init
loop-place-init c vs H known = no-parts-within vs H

pub loop-place-preserved : goal.loop-place-preserved
loop-place-preserved c vs H known =
    let ps = c.args.parts.now in
    let i = c.loop-place.place in
    let p = get_or ps i 0 in
    parts-within-more vs H ps i p c.loop-place.found c.in_ok-inside.inside c.in_ok-across.across c.worse.result c.worse-found.result c.loop-place-test.true
    (sym (get_or_default_zero ps i p c.loop-place-test.true)) c.worse.ensures c.worse-found.ensures (c.loop-place.invariant vs H known)
    (c.in_ok-inside.ensures vs H known) (c.in_ok-across.ensures vs H known)

pub returns : goal.returns
returns c vs H known =
    subst (λ l. Says vs (flat H l) c.loop-place.found)
    (take_all c.loop-place.place c.args.parts.now c.loop-place-test.false) (c.loop-place.invariant vs H known)
