use Rattle.std.proofs.Common.{refl, ap, arith, length, ◌<◌, ◌≤◌, ◌∙◌, ◌++◌}
use Rattle.juniper_schema.specs.SchemaView.{view_schema}
use Rattle.juniper_syntax.specs.DocumentView.{view_word}
use Rattle.juniper_explain.specs.Explanations.{view_explanations}
use Rattle.juniper_explain.specs.Nodes.{other_condition}
use Rattle.juniper_written.proofs.Lists.{flat-all, flat-next, flat-seen}
use Rattle.juniper_explain.proofs.conditions.explain_other_conditions.Goals as goal

pub loop-index-init : goal.loop-index-init
loop-index-init g c = refl

pub loop-index-preserved : goal.loop-index-preserved
loop-index-preserved g c =
    let shown = g.S.ScalarValue.shown in
    let s = view_schema shown c.args.schema.now in
    let below : c.loop-index.index < length c.args.conditions.now.items = omega (
      arith,
      c.loop-index-test.true,
      c.len-index-end.ensures,
      c.args.conditions.now.ok.0,
    ) in
    flat-next (λ x. other_condition s (view_word x)) c.args.conditions.now.items (view_explanations c.args.explanations.now.items) c.loop-index.index
    c.index.result.now
    (view_explanations c.loop-index.explanations.items) (view_explanations c.explain_other_condition.new.explanations.items) below c.index.ensures
    c.loop-index.invariant
    c.in_ok-explain_other_condition.ensures

pub returns : goal.returns
returns g c =
    let shown = g.S.ScalarValue.shown in
    let s = view_schema shown c.args.schema.now in
    let past : length c.args.conditions.now.items ≤ c.loop-index.index = omega (
      arith,
      c.loop-index-test.false,
      c.len-index-end.ensures,
      c.args.conditions.now.ok.0,
    ) in
    let old = view_explanations c.args.explanations.now.items in
    flat-all (λ x. other_condition s (view_word x)) c.args.conditions.now.items old c.loop-index.index (view_explanations c.loop-index.explanations.items)
    past c.loop-index.invariant
    ∙ ap (λ l. old ++ l) (flat-seen view_word (λ y. other_condition s y) c.args.conditions.now.items)
