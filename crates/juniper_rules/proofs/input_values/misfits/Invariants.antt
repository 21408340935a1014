use Rattle.std.proofs.Common.{map}
use Rattle.juniper_syntax.specs.RuleView.{view_rule_error}
use Rattle.juniper_schema.specs.SchemaView.{view_schema}
use Rattle.juniper_syntax.specs.DocumentView.{view_variable}
use Rattle.juniper_rules.specs.GivenView.{view_given_values}
use Rattle.juniper_rules.proofs.Misfits.{IsListedBefore}
use Rattle.juniper_rules.proofs.input_values.misfits.Given as goal

-- what is listed, and then the errors of the variables that are left
abbrev pub invariant-loop-variable : goal.invariant-loop-variable
invariant-loop-variable g l =
    let shown = g.S.ScalarValue.shown in
    IsListedBefore (view_variable shown) (view_schema shown l.schema) (view_given_values shown l.given) l.defined l.variable-index
    (map view_rule_error l.errors.items)
