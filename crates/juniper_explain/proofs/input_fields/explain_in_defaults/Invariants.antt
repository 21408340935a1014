use Rattle.juniper_syntax.specs.DocumentView.{view_variable}
use Rattle.juniper_explain.specs.Explanations.{view_explanations}
use Rattle.juniper_explain.specs.Nodes.{repeated_in_default}
use Rattle.juniper_written.proofs.Lists.{IsFlatSoFar}
use Rattle.juniper_explain.proofs.input_fields.explain_in_defaults.Given as goal

abbrev pub invariant-loop-variable : goal.invariant-loop-variable
invariant-loop-variable g l =
    let shown = g.S.ScalarValue.shown in
    IsFlatSoFar (λ x. repeated_in_default (view_variable shown x).default) l.variables (view_explanations l.initial.explanations.items)
    l.variable-index (view_explanations l.explanations.items)
