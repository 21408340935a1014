use Rattle.juniper_written.proofs.Counted.{IsCount}
use Rattle.juniper_written.proofs.lone_anonymous_operation.count_operations.Given as goal

abbrev pub invariant-loop-definition : goal.invariant-loop-definition
invariant-loop-definition g l = IsCount g.S.ScalarValue.shown l.definitions l.definition-index l.count
