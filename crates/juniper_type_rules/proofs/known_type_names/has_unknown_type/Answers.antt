use Rattle.std.proofs.Common.{ap, sym, ◌∙◌, map, refl}
use Rattle.std.specs.List.{list_any}
use Rattle.std.specs.Option.{is_none}
use Rattle.graphql_spec.specs.Documents.{VariableDefinition}
use Rattle.graphql_spec.specs.Fields.{type_named}
use Rattle.graphql_spec.specs.Rules.{variable_types}
use Rattle.graphql_spec.specs.Types.{innermost}
use Rattle.graphql_spec.specs.Written.{defined_variables}
use Rattle.juniper_schema.specs.SchemaView.{view_schema}
use Rattle.juniper_syntax.specs.DocumentView.{view_definition, view_operation}
use Rattle.juniper_written.specs.WrittenView.{view_written}
use Rattle.juniper_written.proofs.Variables.{variables-seen}
use Rattle.juniper_type_rules.proofs.Behind.{any-first, any-second}
use Rattle.juniper_type_rules.proofs.known_type_names.has_unknown_type.Goals as goal

pub returns-then-has_unknown_condition : goal.returns-then-has_unknown_condition
returns-then-has_unknown_condition g c =
    let shown = g.S.ScalarValue.shown in
    let s = view_schema shown c.args.schema.now in
    any-first (λ n. is_none (type_named s n)) (view_written shown c.args.written.now).conditions
    (variable_types (view_definition shown c.args.definition.now)) c.if-has_unknown_condition.ensures

pub returns-in-Operation : goal.returns-in-Operation
unfolding variable_types defined_variables
returns-in-Operation g c =
    let shown = g.S.ScalarValue.shown in
    let s = view_schema shown c.args.schema.now in
    let o = c.in-Operation.operation in
    any-second (λ n. is_none (type_named s n)) (view_written shown c.args.written.now).conditions
    (variable_types (view_definition shown c.args.definition.now)) _ c.if-has_unknown_condition.ensures
    (c.has_unknown_variable.ensures
    ∙ (ap (λ vs. list_any (λ n. is_none (type_named s n)) (map (λ (v : VariableDefinition). innermost v.of_type.item) vs))
    (variables-seen shown o.item.variable_definitions (view_operation shown o) refl)
    ∙ ap (λ x. list_any (λ n. is_none (type_named s n)) (variable_types (view_definition shown x))) (sym c.in-Operation.is)))

pub returns-in-Fragment : goal.returns-in-Fragment
unfolding variable_types defined_variables
returns-in-Fragment g c =
    let shown = g.S.ScalarValue.shown in
    let s = view_schema shown c.args.schema.now in
    any-second (λ n. is_none (type_named s n)) (view_written shown c.args.written.now).conditions
    (variable_types (view_definition shown c.args.definition.now)) _ c.if-has_unknown_condition.ensures
    (ap (λ x. list_any (λ n. is_none (type_named s n)) (variable_types (view_definition shown x))) (sym c.in-Fragment.is))
