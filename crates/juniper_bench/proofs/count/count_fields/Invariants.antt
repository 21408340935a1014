use Rattle.juniper_bench.proofs.Counting.{IsTotalSoFar}
use Rattle.juniper_bench.proofs.count.count_fields.Given as goal

abbrev pub invariant-loop-definition : goal.invariant-loop-definition
invariant-loop-definition g l = IsTotalSoFar g.S.ScalarValue.shown l.definitions l.definition-index l.count
