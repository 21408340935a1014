use Rattle.std.proofs.Common.{refl, ap, map, ◌∙◌, ◌++◌}
use Rattle.std.specs.List.{flat_map}
use Rattle.juniper_schema.specs.SchemaView.{view_schema}
use Rattle.juniper_type_rules.specs.PlacedView.{view_placed}
use Rattle.juniper_explain.specs.Explanations.{view_explanations}
use Rattle.juniper_explain.specs.Nodes.{unknown_field}
use Rattle.juniper_written.proofs.Lists.{flat-all, flat-next, flat-seen}
use Rattle.juniper_explain.proofs.fields.explain_unknown_fields.Goals as goal

pub loop-placed-init : goal.loop-placed-init
loop-placed-init g c = refl

pub loop-placed-preserved : goal.loop-placed-preserved
loop-placed-preserved g c =
    let shown = g.S.ScalarValue.shown in
    let s = view_schema shown c.args.schema.now in
    flat-next (λ x. unknown_field s (view_placed shown x)) c.deref-placed-items.result.now (view_explanations c.args.explanations.now.items)
    c.loop-placed.placed-index c.placed-item.result
    (view_explanations c.loop-placed.explanations.items) (view_explanations c.explain_unknown_field.new.explanations.items) c.loop-placed-test.true
    c.placed-item.is c.loop-placed.invariant
    c.in_ok-explain_unknown_field.ensures

pub returns : goal.returns
returns g c =
    let shown = g.S.ScalarValue.shown in
    let s = view_schema shown c.args.schema.now in
    let old = view_explanations c.args.explanations.now.items in
    flat-all (λ x. unknown_field s (view_placed shown x)) c.deref-placed-items.result.now old c.loop-placed.placed-index
    (view_explanations c.loop-placed.explanations.items) c.loop-placed-test.false c.loop-placed.invariant
    ∙ ap (λ l. old ++ l) (flat-seen (view_placed shown) (unknown_field s) c.deref-placed-items.result.now ∙ ap
    (λ l. flat_map (unknown_field s) (map (view_placed shown) l)) c.deref-placed-items.ensures.value)
