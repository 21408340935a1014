use Rattle.juniper_type_rules.specs.PlacedView.{view_placed}
use Rattle.juniper_schema.specs.SchemaView.{view_schema}
use Rattle.juniper_type_rules.specs.SetTests.{has_wrong_set}
use Rattle.juniper_written.proofs.Deciding.{IsOpen}
use Rattle.juniper_type_rules.proofs.scalar_leafs.has_wrong_set.Given as goal

abbrev pub invariant-loop-placed : goal.invariant-loop-placed
invariant-loop-placed g l =
    let shown = g.S.ScalarValue.shown in
    IsOpen (view_placed shown) (has_wrong_set (view_schema shown l.schema)) l.placed-items l.placed-index
