use Rattle.std.proofs.Common.{◌+◌, ◌∷◌, drop, map, take, refl, sym, ap, ◌∙◌, inr}
use Rattle.std.proofs.lemmas.List.{map-append, take-append-drop}
use Rattle.juniper_lookahead.specs.Collected.{view_collected}
use Rattle.juniper_lookahead.specs.declared.occurrences.Occurrence.{Occurrence}
use Rattle.juniper_conversions.specs.ErrorView.{view_listed}
use Rattle.juniper_twin.proofs.Occurrences.{some-first, some-more}
use Rattle.juniper_walk.proofs.Slices.{seen-in, taken-one}
use Rattle.juniper_twin.proofs.completing.complete_all.Goals as goal

pub loop-occurrence-init : goal.loop-occurrence-init
loop-occurrence-init g c = some-first _ _ _ _ _ _ _ _ _ refl c.in_ok-value.ensures

pub complete_one-requires-in-loop-occurrence-clause-reached : goal.complete_one-requires-in-loop-occurrence-clause-reached
complete_one-requires-in-loop-occurrence-clause-reached g c =
    let view = λ (x : Occurrence g.row.S.Denot). view_collected g.S.ScalarValue.shown c.args.walk.now.collector x.field.now in
    let x = c.occurrence-item.result in
    c.requires.reached (view x) (inr (seen-in view c.args.group.now.others.now c.loop-occurrence.occurrence-index x c.loop-occurrence-test.true
    c.occurrence-item.is))

pub loop-occurrence-preserved : goal.loop-occurrence-preserved
loop-occurrence-preserved g c =
    let shown = g.S.ScalarValue.shown in
    let view = λ (x : Occurrence g.row.S.Denot). view_collected shown c.args.walk.now.collector x.field.now in
    let first = view_collected shown c.args.walk.now.collector c.args.group.now.first.now in
    let i = c.loop-occurrence.occurrence-index in
    let os = c.args.group.now.others.now in
    let x = c.occurrence-item.result in
    let split = ap (λ l. first ∷ map view l) (sym (take-append-drop (i + 1) os)) ∙ ap (λ l. first ∷ l) (map-append view (take (i + 1) os) (drop (i + 1) os)) in
    let next = ap (λ l. first ∷ l) (taken-one view os i x c.loop-occurrence-test.true c.occurrence-item.is) in
    let listed = ap (map (view_listed shown)) c.in_ok-append.ensures.items
    ∙ map-append (view_listed shown) c.loop-occurrence.errors.items c.in_ok-more.more.errors.items in
    some-more _ _ _ _ _ _ _ _ _ _ _ _ _ _ _ split next listed c.loop-occurrence.invariant c.in_ok-more.ensures c.in_ok-value-2.ensures
