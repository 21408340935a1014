use Rattle.juniper_schema.specs.SchemaView.{view_schema}
use Rattle.juniper_field_graph.specs.MetView.{met_at}
use Rattle.juniper_field_graph.proofs.MetSelections.{IsMetSoFar}
use Rattle.juniper_field_graph.proofs.plain_keys.+meeting.Given as goal

abbrev pub invariant-meet_selections-loop-selection : goal.invariant-meet_selections-loop-selection
invariant-meet_selections-loop-selection g l =
    let shown = g.S.ScalarValue.shown in
    let s = view_schema shown l.schema in
    IsMetSoFar shown s l.parent l.selections (met_at shown s l.initial.met) l.selection-index (met_at shown s l.met)
