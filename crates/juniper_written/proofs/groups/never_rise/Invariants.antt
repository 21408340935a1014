use Rattle.juniper_written.specs.SpreadsView.{Falls}
use Rattle.juniper_written.proofs.Testing.{HoldsSoFar}
use Rattle.juniper_written.proofs.groups.never_rise.Given as goal

abbrev pub invariant-loop-name : goal.invariant-loop-name
invariant-loop-name l = HoldsSoFar l.names (Falls l.spreads l.groups) l.name-index
