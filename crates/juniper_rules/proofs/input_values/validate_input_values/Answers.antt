use Rattle.std.proofs.Common.{ap, ◌∙◌}
use Rattle.graphql_spec.specs.Documents.{variables_of}
use Rattle.graphql_spec.specs.Requests.{variable_errors}
use Rattle.juniper_schema.specs.SchemaView.{view_schema}
use Rattle.juniper_syntax.specs.DocumentView.{view_operation}
use Rattle.juniper_rules.proofs.input_values.validate_input_values.Goals as goal

pub returns : goal.returns
returns g c =
    let shown = g.S.ScalarValue.shown in
    c.in_ok-errors.ensures
    ∙ ap (variable_errors (view_schema shown c.args.schema.now) (variables_of (view_operation shown c.args.operation.now))) c.in_ok-given.ensures
