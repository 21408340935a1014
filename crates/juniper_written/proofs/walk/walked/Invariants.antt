use Rattle.std.proofs.Common.{◌+◌, length}
use Rattle.juniper_written.specs.WrittenView.{entries_of, has_name}
use Rattle.juniper_written.proofs.Weights.{weight}
use Rattle.juniper_written.proofs.walk.walked.Given as goal

abbrev pub invariant-loop-step : goal.invariant-loop-step
invariant-loop-step l = Unit {0}

abbrev pub decreases-loop-step : goal.decreases-loop-step
decreases-loop-step l = weight (has_name l.entered) (entries_of l.spreads) + length l.steps.items
