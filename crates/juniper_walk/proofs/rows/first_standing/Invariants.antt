use Rattle.std.proofs.Common.{◌≡◌, drop}
use Rattle.juniper_assemble.specs.SpotView.{view_nodes}
use Rattle.juniper_walk.specs.Lists.{first_in}
use Rattle.juniper_walk.specs.Rows.{spots_standing}
use Rattle.juniper_walk.proofs.rows.first_standing.Given as goal

-- what is left decides
abbrev pub invariant-loop-number : goal.invariant-loop-number
invariant-loop-number g l =
    first_in (spots_standing (drop l.number l.rows) (view_nodes (drop l.number l.spots))) ≡ first_in (spots_standing l.rows (view_nodes l.spots))
