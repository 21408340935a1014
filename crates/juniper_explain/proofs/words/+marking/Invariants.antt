use Rattle.juniper_explain.specs.Words.{view_marked}
use Rattle.juniper_explain.proofs.Marking.{IsSoFar}
use Rattle.juniper_explain.proofs.words.+marking.Given as goal

abbrev pub invariant-mark_selections-loop-selection : goal.invariant-mark_selections-loop-selection
invariant-mark_selections-loop-selection g l =
    IsSoFar g.S.ScalarValue.shown l.selections (view_marked l.initial.words) l.selection-index (view_marked l.words)
