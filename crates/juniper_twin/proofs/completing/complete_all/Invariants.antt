use Rattle.std.proofs.Common.{◌∷◌, map, take}
use Rattle.juniper_assemble.specs.SkeletonView.{view_skeleton}
use Rattle.juniper_assemble.specs.SpotView.{view_nodes}
use Rattle.juniper_lookahead.specs.Collected.{view_all, view_collected}
use Rattle.juniper_conversions.specs.ErrorView.{view_listed}
use Rattle.juniper_syntax.specs.ValueView.{view_value}
use Rattle.juniper_walk.specs.Completing.{view_errors}
use Rattle.juniper_twin.specs.Completing.{AreSome, view_group}
use Rattle.juniper_twin.proofs.completing.complete_all.Given as goal

abbrev pub invariant-loop-occurrence : goal.invariant-loop-occurrence
invariant-loop-occurrence g l =
    let shown = g.S.ScalarValue.shown in
    let view = view_all shown l.walk.collector in
    AreSome (g.R.Completer.world l.walk.collector.possible) (view_skeleton shown l.parted.skeleton) (view_nodes l.parted.nodes.items)
    (view_errors shown l.parted.errors.items) (view_group shown l.walk.collector l.group)
    (view_collected shown l.walk.collector l.group.first.now ∷ view (take l.occurrence-index l.group.others.now)) (view_value shown l.value)
    (map (view_listed shown) l.errors.items)
