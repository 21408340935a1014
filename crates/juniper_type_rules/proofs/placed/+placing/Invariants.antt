use Rattle.juniper_schema.specs.SchemaView.{view_schema}
use Rattle.juniper_type_rules.specs.PlacedView.{view_parts}
use Rattle.juniper_type_rules.proofs.Placing.{IsSoFar}
use Rattle.juniper_type_rules.proofs.placed.+placing.Given as goal

abbrev pub invariant-place_selections-loop-selection : goal.invariant-place_selections-loop-selection
invariant-place_selections-loop-selection g l =
    let shown = g.S.ScalarValue.shown in
    IsSoFar shown (view_schema shown l.schema) l.name l.selections (view_parts shown l.initial.placed) l.selection-index (view_parts shown l.placed)
