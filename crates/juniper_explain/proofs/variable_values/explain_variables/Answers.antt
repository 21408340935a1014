use Rattle.std.proofs.Common.{ap, ◌∙◌, refl}
use Rattle.graphql_spec.specs.Documents.{variables_of}
use Rattle.juniper_rules.specs.GivenView.{view_given_values}
use Rattle.juniper_schema.specs.SchemaView.{view_schema}
use Rattle.juniper_syntax.specs.DocumentView.{view_operation}
use Rattle.juniper_explain.specs.GivenValues.{variable_explanations}
use Rattle.juniper_explain.proofs.TellingValues.{variables-seen}
use Rattle.juniper_explain.proofs.variable_values.explain_variables.Goals as goal

pub returns : goal.returns
returns g c =
    let shown = g.S.ScalarValue.shown in
    let s = view_schema shown c.args.schema.now in
    c.in_ok-explanations.ensures
    ∙ (ap (λ vs. variable_explanations s vs (view_given_values shown c.in_ok-given.given))
    (c.listed-defined.ensures ∙ variables-seen shown c.args.operation.now _ refl)
    ∙ ap (variable_explanations s (variables_of (view_operation shown c.args.operation.now))) c.in_ok-given.ensures)
