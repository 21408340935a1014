use Rattle.std.proofs.Common.{◌<◌, ◌≤◌, length, map, refl, ap, ◌∙◌, ◌++◌, arith}
use Rattle.std.specs.List.{flat_map}
use Rattle.juniper_rules.specs.Listing.{view_listed_on_types}
use Rattle.juniper_type_rules.specs.CallView.{view_calls}
use Rattle.juniper_schema.specs.SchemaView.{view_schema}
use Rattle.juniper_syntax.specs.DocumentView.{view_variable}
use Rattle.juniper_written.proofs.Lists.{flat-next, flat-all, flat-seen}
use Rattle.juniper_type_rules.specs.Positions.{places_in_call}
use Rattle.juniper_type_rules.specs.UsesView.{view_places}
use Rattle.juniper_explain.specs.Explanations.{view_explanations}
use Rattle.juniper_explain.specs.Nodes.{misused_by}
use Rattle.juniper_explain.proofs.PartWords.{at_places}
use Rattle.juniper_explain.proofs.misused.explain_parts.Goals as goal

pub loop-index-init : goal.loop-index-init
loop-index-init g c = refl

pub loop-index-preserved : goal.loop-index-preserved
loop-index-preserved g c =
    let shown = g.S.ScalarValue.shown in
    let s = view_schema shown c.args.schema.now in
    let found = misused_by (map (view_variable shown) c.args.variables.now) in
    let l = c.loop-index in
    let xs = c.args.parts.now in
    let before = view_explanations l.explanations.items in
    let below : l.index < length xs.items = omega (arith, c.loop-index-test.true, c.len-index-end.ensures, xs.ok.0) in
    flat-next (at_places shown s found) xs.items (view_explanations c.args.explanations.now.items) l.index c.index-part.result.now
    before (view_explanations c.explain_places.new.explanations.items) below c.index-part.ensures l.invariant
    (c.in_ok-explain_places.ensures
    ∙ ap (λ ps. before ++ flat_map found ps) (ap view_places c.deref-in-loop-index.ensures.value
    ∙ (c.in_ok-places.ensures ∙ ap (λ calls. flat_map (places_in_call s) (view_calls shown calls)) c.deref.ensures.value)))

pub returns : goal.returns
returns g c =
    let shown = g.S.ScalarValue.shown in
    let s = view_schema shown c.args.schema.now in
    let found = misused_by (map (view_variable shown) c.args.variables.now) in
    let xs = c.args.parts.now in
    let old = view_explanations c.args.explanations.now.items in
    let past : length xs.items ≤ c.loop-index.index = omega (arith, c.loop-index-test.false, c.len-index-end.ensures, xs.ok.0) in
    flat-all (at_places shown s found) xs.items old c.loop-index.index (view_explanations c.loop-index.explanations.items) past c.loop-index.invariant
    ∙ ap (λ l. old ++ l) (flat-seen (λ p. view_listed_on_types shown p.now) (λ l. flat_map found (flat_map (places_in_call s) l.calls)) xs.items)
