use Rattle.std.proofs.Common.{refl, ap, ◌∙◌, ◌++◌}
use Rattle.juniper_syntax.specs.DocumentView.{view_variable}
use Rattle.juniper_explain.specs.Explanations.{view_explanations}
use Rattle.juniper_explain.specs.Nodes.{repeated_in_default}
use Rattle.juniper_written.proofs.Lists.{flat-all, flat-next, flat-seen}
use Rattle.juniper_explain.proofs.input_fields.explain_in_defaults.Goals as goal

pub loop-variable-init : goal.loop-variable-init
loop-variable-init g c = refl

pub loop-variable-preserved : goal.loop-variable-preserved
loop-variable-preserved g c =
    let shown = g.S.ScalarValue.shown in
    flat-next (λ x. repeated_in_default (view_variable shown x).default) c.args.variables.now
    (view_explanations c.args.explanations.now.items) c.loop-variable.variable-index c.variable-item.result
    (view_explanations c.loop-variable.explanations.items) (view_explanations c.explain_in_default.new.explanations.items) c.loop-variable-test.true
    c.variable-item.is c.loop-variable.invariant
    c.in_ok-explain_in_default.ensures

pub returns : goal.returns
returns g c =
    let shown = g.S.ScalarValue.shown in
    let old = view_explanations c.args.explanations.now.items in
    flat-all (λ x. repeated_in_default (view_variable shown x).default) c.args.variables.now old c.loop-variable.variable-index
    (view_explanations c.loop-variable.explanations.items) c.loop-variable-test.false c.loop-variable.invariant
    ∙ ap (λ l. old ++ l) (flat-seen (view_variable shown) (λ y. repeated_in_default y.default) c.args.variables.now)
