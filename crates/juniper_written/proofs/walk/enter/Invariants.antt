use Rattle.std.proofs.Common.{◌≡◌, ◌≤◌, ◌+◌, suc, length}
use Rattle.juniper_written.proofs.walk.enter.Given as goal

abbrev pub invariant-loop-inner : goal.invariant-loop-inner
invariant-loop-inner l = (l.inner-index ≤ length l.inner-items) × (length l.steps.items ≡ length l.fn.steps.items + suc l.inner-index)
