use Rattle.juniper_bench.proofs.Counting.{IsCountSoFar}
use Rattle.juniper_bench.proofs.count.+counting.Given as goal

abbrev pub invariant-count_selections-loop-selection : goal.invariant-count_selections-loop-selection
invariant-count_selections-loop-selection g l = IsCountSoFar g.S.ScalarValue.shown l.selections l.before l.selection-index l.count
