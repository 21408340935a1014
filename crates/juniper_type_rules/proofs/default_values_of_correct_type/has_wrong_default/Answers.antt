use Rattle.std.proofs.Common.{ap, sym, ◌∙◌, refl}
use Rattle.std.specs.List.{list_any}
use Rattle.graphql_spec.specs.Rules.{has_wrong_default}
use Rattle.graphql_spec.specs.Written.{defined_variables}
use Rattle.juniper_schema.specs.SchemaView.{view_schema}
use Rattle.juniper_syntax.specs.DocumentView.{view_definition, view_operation}
use Rattle.juniper_type_rules.specs.SetTests.{has_misfit}
use Rattle.juniper_written.proofs.Variables.{variables-seen}
use Rattle.juniper_type_rules.proofs.default_values_of_correct_type.has_wrong_default.Goals as goal

pub returns-in_ok-found-in-Operation : goal.returns-in_ok-found-in-Operation
unfolding has_wrong_default has_misfit defined_variables
returns-in_ok-found-in-Operation g c =
    let shown = g.S.ScalarValue.shown in
    let s = view_schema shown c.args.schema.now in
    let o = c.in-Operation.operation in
    c.in_ok-found-in-Operation.ensures
    ∙ (ap (list_any (has_misfit s)) (variables-seen shown o.item.variable_definitions (view_operation shown o) refl)
    ∙ ap (λ x. has_wrong_default s (view_definition shown x)) (sym c.in-Operation.is))

pub returns-in-Fragment : goal.returns-in-Fragment
unfolding has_wrong_default defined_variables
returns-in-Fragment g c =
    let shown = g.S.ScalarValue.shown in
    let s = view_schema shown c.args.schema.now in
    ap (λ x. has_wrong_default s (view_definition shown x)) (sym c.in-Fragment.is)
