use Rattle.std.proofs.Common.{slice_range}
use Rattle.juniper_assemble.specs.SpotView.{view_nodes}
use Rattle.juniper_walk.specs.Rows.{AreOfType}
use Rattle.juniper_walk.proofs.walking.run_end.Given as goal

-- the nodes so far are of the type
abbrev pub invariant-loop-place : goal.invariant-loop-place
invariant-loop-place g l = AreOfType (g.R.Completer.world l.walk.collector.possible) l.concrete (view_nodes (slice_range l.nodes l.start l.place))
