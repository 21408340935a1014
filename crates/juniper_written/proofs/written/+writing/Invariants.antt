use Rattle.juniper_written.specs.WrittenView.{view_written}
use Rattle.juniper_written.proofs.Joining.{IsSoFar}
use Rattle.juniper_written.proofs.written.+writing.Given as goal

abbrev pub invariant-write_selections-loop-selection : goal.invariant-write_selections-loop-selection
invariant-write_selections-loop-selection g l = IsSoFar g.S.ScalarValue.shown l.selections
    (view_written g.S.ScalarValue.shown l.initial.written) l.selection-index (view_written g.S.ScalarValue.shown l.written)
