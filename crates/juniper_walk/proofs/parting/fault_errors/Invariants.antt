use Rattle.std.proofs.Common.{◌≡◌, take}
use Rattle.juniper_assemble.specs.SpotView.{view_faults}
use Rattle.juniper_walk.specs.Completing.{view_errors}
use Rattle.juniper_walk.proofs.parting.fault_errors.Given as goal

abbrev pub invariant-loop-fault : goal.invariant-loop-fault
invariant-loop-fault g l = view_errors g.S.ScalarValue.shown l.made.items ≡ view_faults (take l.fault-index l.faults)
