use Rattle.std.proofs.Common.{refl, ap, sym, ◌∙◌}
use Rattle.std.specs.List.{list_any}
use Rattle.graphql_spec.specs.Documents.{variables_of}
use Rattle.graphql_spec.specs.Written.{default_values, defined_variables, field_repeats}
use Rattle.juniper_syntax.specs.DocumentView.{view_definition, view_operation}
use Rattle.juniper_written.proofs.Variables.{variables-seen}
use Rattle.juniper_written.specs.FieldNames.{default_repeats}
use Rattle.juniper_written.proofs.FieldRepeats.{defaults-are}
use Rattle.juniper_written.proofs.unique_input_field_names.defaults_repeat.Goals as goal

pub returns-in_ok-found-in-Operation : goal.returns-in_ok-found-in-Operation
unfolding defined_variables
returns-in_ok-found-in-Operation g c =
    let shown = g.S.ScalarValue.shown in
    let o = c.in-Operation.operation in
    c.in_ok-found-in-Operation.ensures
    ∙ (ap (list_any default_repeats) (variables-seen shown o.item.variable_definitions (view_operation shown o) refl)
    ∙ (sym (defaults-are (variables_of (view_operation shown o)))
    ∙ ap (λ x. list_any field_repeats (default_values (defined_variables (view_definition shown x)))) (sym c.in-Operation.is)))

pub returns-in-Fragment : goal.returns-in-Fragment
unfolding defined_variables default_values
returns-in-Fragment g c = ap (λ x. list_any field_repeats (default_values (defined_variables (view_definition g.S.ScalarValue.shown x)))) (sym c.in-Fragment.is)
