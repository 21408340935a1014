use Rattle.juniper_schema.specs.SchemaView.{view_schema}
use Rattle.juniper_syntax.specs.DocumentView.{view_variable}
use Rattle.juniper_explain.specs.Explanations.{view_explanations}
use Rattle.juniper_explain.specs.Nodes.{other_variable}
use Rattle.juniper_written.proofs.Lists.{IsFlatSoFar}
use Rattle.juniper_explain.proofs.variables.explain_other_variables.Given as goal

abbrev pub invariant-loop-variable : goal.invariant-loop-variable
invariant-loop-variable g l =
    let shown = g.S.ScalarValue.shown in
    let s = view_schema shown l.schema in
    IsFlatSoFar (λ x. other_variable s (view_variable shown x)) l.variables (view_explanations l.initial.explanations.items) l.variable-index
    (view_explanations l.explanations.items)
