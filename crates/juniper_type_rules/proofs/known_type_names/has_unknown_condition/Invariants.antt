use Rattle.std.specs.Option.{is_none}
use Rattle.graphql_spec.specs.Fields.{type_named}
use Rattle.juniper_schema.specs.SchemaView.{view_schema}
use Rattle.juniper_written.proofs.Deciding.{IsOpen}
use Rattle.juniper_type_rules.proofs.known_type_names.has_unknown_condition.Given as goal

abbrev pub invariant-loop-index : goal.invariant-loop-index
invariant-loop-index g l =
    let shown = g.S.ScalarValue.shown in
    IsOpen (λ n. n.now) (λ n. is_none (type_named (view_schema shown l.schema) n)) l.written.conditions.items l.index
