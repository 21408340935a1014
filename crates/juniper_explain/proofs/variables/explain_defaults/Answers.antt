use Rattle.std.proofs.Common.{refl, ap, ◌∙◌, ◌++◌}
use Rattle.juniper_schema.specs.SchemaView.{view_schema}
use Rattle.juniper_syntax.specs.DocumentView.{view_variable}
use Rattle.juniper_explain.specs.Explanations.{view_explanations}
use Rattle.juniper_explain.specs.Nodes.{wrong_default}
use Rattle.juniper_written.proofs.Lists.{flat-all, flat-next, flat-seen}
use Rattle.juniper_explain.proofs.variables.explain_defaults.Goals as goal

pub loop-variable-init : goal.loop-variable-init
loop-variable-init g c = refl

pub loop-variable-preserved : goal.loop-variable-preserved
loop-variable-preserved g c =
    let shown = g.S.ScalarValue.shown in
    let s = view_schema shown c.args.schema.now in
    flat-next (λ x. wrong_default s (view_variable shown x) (view_variable shown x).default) c.args.variables.now
    (view_explanations c.args.explanations.now.items) c.loop-variable.variable-index c.variable-item.result
    (view_explanations c.loop-variable.explanations.items) (view_explanations c.explain_default.new.explanations.items) c.loop-variable-test.true
    c.variable-item.is c.loop-variable.invariant
    c.in_ok-explain_default.ensures

pub returns : goal.returns
returns g c =
    let shown = g.S.ScalarValue.shown in
    let s = view_schema shown c.args.schema.now in
    let old = view_explanations c.args.explanations.now.items in
    flat-all (λ x. wrong_default s (view_variable shown x) (view_variable shown x).default) c.args.variables.now old c.loop-variable.variable-index
    (view_explanations c.loop-variable.explanations.items) c.loop-variable-test.false c.loop-variable.invariant
    ∙ ap (λ l. old ++ l) (flat-seen (view_variable shown) (λ y. wrong_default s y y.default) c.args.variables.now)
