use Rattle.std.proofs.Common.{ap, sym, ◌∙◌, map, not, refl}
use Rattle.std.specs.List.{list_any}
use Rattle.graphql_spec.specs.Documents.{VariableDefinition}
use Rattle.graphql_spec.specs.Fields.{is_input, type_named}
use Rattle.graphql_spec.specs.Rules.{has_other_variable, variable_types}
use Rattle.graphql_spec.specs.Types.{innermost}
use Rattle.graphql_spec.specs.Written.{defined_variables}
use Rattle.juniper_schema.specs.SchemaView.{view_schema}
use Rattle.juniper_syntax.specs.DocumentView.{view_definition, view_operation}
use Rattle.juniper_written.proofs.Variables.{variables-seen}
use Rattle.juniper_type_rules.proofs.variables_are_input_types.has_other_variable.Goals as goal

pub returns-in-Operation : goal.returns-in-Operation
unfolding has_other_variable variable_types defined_variables
returns-in-Operation g c =
    let shown = g.S.ScalarValue.shown in
    let s = view_schema shown c.args.schema.now in
    let o = c.in-Operation.operation in
    c.has_other_type.ensures
    ∙ (ap (λ vs. list_any (λ n. not (is_input (type_named s n))) (map (λ (v : VariableDefinition). innermost v.of_type.item) vs))
    (variables-seen shown o.item.variable_definitions (view_operation shown o) refl)
    ∙ ap (λ x. has_other_variable s (view_definition shown x)) (sym c.in-Operation.is))

pub returns-in-Fragment : goal.returns-in-Fragment
unfolding has_other_variable variable_types defined_variables
returns-in-Fragment g c =
    let shown = g.S.ScalarValue.shown in
    ap (λ x. has_other_variable (view_schema shown c.args.schema.now) (view_definition shown x)) (sym c.in-Fragment.is)
