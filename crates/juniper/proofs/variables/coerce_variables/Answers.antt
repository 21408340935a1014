use Rattle.std.proofs.Common.{ap, ◌∙◌}
use Rattle.graphql_spec.specs.Documents.{variables_of}
use Rattle.graphql_spec.specs.Requests.{coerced_variables}
use Rattle.juniper_syntax.specs.DocumentView.{view_operation}
use Rattle.juniper_rules.specs.GivenView.{view_given_values}
use Rattle.juniper.proofs.variables.coerce_variables.Goals as goal

pub returns : goal.returns
returns g c =
    let shown = g.S.ScalarValue.shown in
    c.in_ok-values.ensures
    ∙ (ap (λ vs. coerced_variables vs (view_given_values shown c.in_ok-given.given)) c.defined_variables.ensures
    ∙ ap (coerced_variables (variables_of (view_operation shown c.args.operation.now))) c.in_ok-given.ensures)
