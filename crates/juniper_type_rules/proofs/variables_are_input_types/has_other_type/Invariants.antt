use Rattle.std.proofs.Common.{not}
use Rattle.graphql_spec.specs.Fields.{is_input, type_named}
use Rattle.juniper_schema.specs.SchemaView.{view_schema}
use Rattle.juniper_syntax.specs.DocumentView.{view_variable}
use Rattle.graphql_spec.specs.Types.{innermost}
use Rattle.juniper_written.proofs.Deciding.{IsOpen}
use Rattle.juniper_type_rules.proofs.variables_are_input_types.has_other_type.Given as goal

abbrev pub invariant-loop-variable : goal.invariant-loop-variable
invariant-loop-variable g l =
    let shown = g.S.ScalarValue.shown in
    IsOpen (λ v. innermost (view_variable shown v).of_type.item) (λ n. not (is_input (type_named (view_schema shown l.schema) n))) l.variable-items
    l.variable-index
