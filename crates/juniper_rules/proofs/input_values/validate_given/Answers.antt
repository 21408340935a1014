use Rattle.std.proofs.Common.{ap, ◌∙◌, List, map}
use Rattle.graphql_spec.specs.Documents.{VariableDefinition}
use Rattle.graphql_spec.specs.Requests.{variable_errors}
use Rattle.graphql_spec.specs.Rules.{RuleError}
use Rattle.juniper_syntax.specs.RuleView.{view_rule_error}
use Rattle.juniper_schema.specs.SchemaView.{view_schema}
use Rattle.juniper_syntax.specs.DocumentView.{view_variable}
use Rattle.juniper_rules.specs.GivenView.{view_given_values}
use Rattle.juniper_rules.proofs.Misfits.{variables-none, variables-some}
use Rattle.juniper_rules.proofs.input_values.validate_given.Goals as goal

pub returns-in_ok-errors-in-Some : goal.returns-in_ok-errors-in-Some
returns-in_ok-errors-in-Some g c =
    let shown = g.S.ScalarValue.shown in
    let errors_of : List VariableDefinition → List RuleError = λ vs. variable_errors (view_schema shown c.args.schema.now) vs
    (view_given_values shown c.args.given.now) in
    c.in_ok-errors-in-Some.ensures ∙ (ap (λ l. errors_of (map (view_variable shown) l)) c.as_slice.ensures.value
    ∙ ap errors_of (variables-some shown c.args.operation.now c.in-Some.defined c.in-Some.is))

pub returns-in-None : goal.returns-in-None
unfolding variable_errors
returns-in-None g c =
    let shown = g.S.ScalarValue.shown in
    let errors_of : List VariableDefinition → List RuleError = λ vs. variable_errors (view_schema shown c.args.schema.now) vs
    (view_given_values shown c.args.given.now) in
    ap (map view_rule_error) c.new.ensures.items ∙ ap errors_of (variables-none shown c.args.operation.now c.in-None.is)
