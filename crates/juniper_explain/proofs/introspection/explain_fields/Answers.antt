use Rattle.std.proofs.Common.{refl, ap, arith, length, ◌<◌, ◌≤◌, ◌∙◌, ◌++◌}
use Rattle.juniper_syntax.specs.DocumentView.{view_field}
use Rattle.juniper_explain.specs.Explanations.{view_explanations}
use Rattle.juniper_explain.specs.Nodes.{introspection_field}
use Rattle.juniper_written.proofs.Lists.{flat-all, flat-next, flat-seen}
use Rattle.juniper_explain.proofs.introspection.explain_fields.Goals as goal

pub loop-index-init : goal.loop-index-init
loop-index-init g c = refl

pub loop-index-preserved : goal.loop-index-preserved
loop-index-preserved g c =
    let shown = g.S.ScalarValue.shown in
    let below : c.loop-index.index < length c.args.fields.now.items = omega (arith, c.loop-index-test.true, c.len-index-end.ensures, c.args.fields.now.ok.0)
    in
    flat-next (λ x. introspection_field (view_field shown x.now)) c.args.fields.now.items (view_explanations c.args.explanations.now.items) c.loop-index.index
    c.index-field.result.now
    (view_explanations c.loop-index.explanations.items) (view_explanations c.explain_field.new.explanations.items) below c.index-field.ensures
    c.loop-index.invariant
    c.in_ok-explain_field.ensures

pub returns : goal.returns
returns g c =
    let shown = g.S.ScalarValue.shown in
    let past : length c.args.fields.now.items ≤ c.loop-index.index = omega (arith, c.loop-index-test.false, c.len-index-end.ensures, c.args.fields.now.ok.0)
    in
    let old = view_explanations c.args.explanations.now.items in
    flat-all (λ x. introspection_field (view_field shown x.now)) c.args.fields.now.items old c.loop-index.index
    (view_explanations c.loop-index.explanations.items) past c.loop-index.invariant
    ∙ ap (λ l. old ++ l) (flat-seen (λ x. view_field shown x.now) (λ y. introspection_field y) c.args.fields.now.items)
