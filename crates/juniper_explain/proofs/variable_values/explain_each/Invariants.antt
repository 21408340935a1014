use Rattle.juniper_rules.specs.GivenView.{view_given_values}
use Rattle.juniper_schema.specs.SchemaView.{view_schema}
use Rattle.juniper_syntax.specs.DocumentView.{view_variable}
use Rattle.juniper_written.proofs.Lists.{IsFlatSoFar}
use Rattle.juniper_explain.specs.GivenValues.{view_variable_explanations}
use Rattle.juniper_explain.proofs.TellingValues.{explanations_of}
use Rattle.juniper_explain.proofs.variable_values.explain_each.Given as goal

abbrev pub invariant-loop-variable : goal.invariant-loop-variable
invariant-loop-variable g l =
    let shown = g.S.ScalarValue.shown in
    IsFlatSoFar (λ x. explanations_of (view_schema shown l.schema) (view_given_values shown l.given) (view_variable shown x)) l.defined
    (view_variable_explanations l.initial.explanations.items) l.variable-index (view_variable_explanations l.explanations.items)
