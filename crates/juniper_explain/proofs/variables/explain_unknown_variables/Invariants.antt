use Rattle.juniper_schema.specs.SchemaView.{view_schema}
use Rattle.juniper_syntax.specs.DocumentView.{view_variable}
use Rattle.juniper_explain.specs.Explanations.{view_explanations}
use Rattle.juniper_explain.specs.Nodes.{unknown_type}
use Rattle.juniper_explain.specs.Words.{type_word}
use Rattle.juniper_written.proofs.Lists.{IsFlatSoFar}
use Rattle.juniper_explain.proofs.variables.explain_unknown_variables.Given as goal

abbrev pub invariant-loop-variable : goal.invariant-loop-variable
invariant-loop-variable g l =
    let shown = g.S.ScalarValue.shown in
    let s = view_schema shown l.schema in
    IsFlatSoFar (λ x. unknown_type s (type_word (view_variable shown x))) l.variables (view_explanations l.initial.explanations.items) l.variable-index
    (view_explanations l.explanations.items)
