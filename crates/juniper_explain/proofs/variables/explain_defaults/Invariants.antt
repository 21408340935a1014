use Rattle.juniper_schema.specs.SchemaView.{view_schema}
use Rattle.juniper_syntax.specs.DocumentView.{view_variable}
use Rattle.juniper_explain.specs.Explanations.{view_explanations}
use Rattle.juniper_explain.specs.Nodes.{wrong_default}
use Rattle.juniper_written.proofs.Lists.{IsFlatSoFar}
use Rattle.juniper_explain.proofs.variables.explain_defaults.Given as goal

abbrev pub invariant-loop-variable : goal.invariant-loop-variable
invariant-loop-variable g l =
    let shown = g.S.ScalarValue.shown in
    let s = view_schema shown l.schema in
    IsFlatSoFar (λ x. wrong_default s (view_variable shown x) (view_variable shown x).default) l.variables (view_explanations l.initial.explanations.items)
    l.variable-index (view_explanations l.explanations.items)
