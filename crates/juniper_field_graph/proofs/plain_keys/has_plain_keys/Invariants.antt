use Rattle.juniper_schema.specs.SchemaView.{view_schema}
use Rattle.juniper_field_graph.specs.MetView.{met_at}
use Rattle.juniper_field_graph.proofs.MetDefinitions.{AreMetSoFar}
use Rattle.juniper_field_graph.proofs.plain_keys.has_plain_keys.Given as goal

abbrev pub invariant-loop-definition : goal.invariant-loop-definition
invariant-loop-definition g l =
    let shown = g.S.ScalarValue.shown in
    let s = view_schema shown l.schema in
    AreMetSoFar shown s l.document l.definition-index (met_at shown s l.met)
