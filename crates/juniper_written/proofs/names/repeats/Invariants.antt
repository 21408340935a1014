use Rattle.std.proofs.Common.{length}
use Rattle.juniper_written.specs.WrittenView.{has_name, view_names}
use Rattle.juniper_written.proofs.Repeated.{IsLeft}
use Rattle.juniper_written.proofs.names.repeats.Given as goal

abbrev pub invariant-loop-left : goal.invariant-loop-left
invariant-loop-left l = IsLeft (view_names l.names) (view_names l.left) (has_name l.seen)

abbrev pub decreases-loop-left : goal.decreases-loop-left
decreases-loop-left l = length l.left
