use Rattle.std.proofs.Common.{◌≡◌, ◌++◌, drop, is_some, map}
use Rattle.juniper_assemble.specs.SpotView.{view_nodes}
use Rattle.juniper_walk.specs.Lists.{picked}
use Rattle.juniper_walk.proofs.rows.standing_nodes.Given as goal

-- what is found, put before what is still to come, is the whole
abbrev pub invariant-loop-number : goal.invariant-loop-number
invariant-loop-number g l =
    map (λ n. n.now) l.nodes.items
    ++ map (λ x. x.what) (picked (map (λ r. is_some r.object) (drop l.number l.rows)) (view_nodes (drop l.number l.spots)))
    ≡ map (λ x. x.what) (picked (map (λ r. is_some r.object) l.rows) (view_nodes l.spots))
