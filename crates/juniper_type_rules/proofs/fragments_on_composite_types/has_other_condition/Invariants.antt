use Rattle.std.proofs.Common.{not}
use Rattle.graphql_spec.specs.Fields.{is_composite, type_named}
use Rattle.juniper_schema.specs.SchemaView.{view_schema}
use Rattle.juniper_written.proofs.Deciding.{IsOpen}
use Rattle.juniper_type_rules.proofs.fragments_on_composite_types.has_other_condition.Given as goal

abbrev pub invariant-loop-index : goal.invariant-loop-index
invariant-loop-index g l =
    let shown = g.S.ScalarValue.shown in
    IsOpen (λ n. n.now) (λ n. not (is_composite (type_named (view_schema shown l.schema) n))) l.written.conditions.items l.index
