use Rattle.std.specs.Option.{is_none}
use Rattle.graphql_spec.specs.Fields.{type_named}
use Rattle.juniper_schema.specs.SchemaView.{view_schema}
use Rattle.juniper_syntax.specs.DocumentView.{view_variable}
use Rattle.graphql_spec.specs.Types.{innermost}
use Rattle.juniper_written.proofs.Deciding.{IsOpen}
use Rattle.juniper_type_rules.proofs.known_type_names.has_unknown_variable.Given as goal

abbrev pub invariant-loop-variable : goal.invariant-loop-variable
invariant-loop-variable g l =
    let shown = g.S.ScalarValue.shown in
    IsOpen (λ v. innermost (view_variable shown v).of_type.item) (λ n. is_none (type_named (view_schema shown l.schema) n)) l.variable-items l.variable-index
