use Rattle.std.proofs.Common.{◌≤◌}
use Rattle.juniper_written.specs.WrittenView.{named}
use Rattle.juniper_written.specs.SpreadsView.{rank_of}
use Rattle.juniper_written.proofs.Testing.{HoldsSoFar}
use Rattle.juniper_written.proofs.groups.greatest.Given as goal

abbrev pub invariant-loop-name : goal.invariant-loop-name
invariant-loop-name l = HoldsSoFar l.names (λ k. rank_of (named l.groups k) ≤ l.greatest) l.name-index
