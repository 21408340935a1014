use Rattle.std.proofs.Common.{◌+◌, ◌*◌, map, take}
use Rattle.graphql_spec.specs.Selections.{depth}
use Rattle.juniper_syntax.specs.ValueView.{view_object, view_value}
use Rattle.juniper_conversions.specs.ErrorView.{view_listed}
use Rattle.juniper_conversions.specs.PathView.{path_place}
use Rattle.juniper_assemble.specs.SpotView.{view_nodes}
use Rattle.juniper_lookahead.specs.Collected.{view_collected}
use Rattle.juniper_lookahead.specs.Singles.{view_singles}
use Rattle.juniper_twin.specs.Walking.{AreAllWalked, IsWalking, deepest}
use Rattle.juniper_twin.proofs.walking.+walking.Given as goal

-- twice how deep what is selected is nested, and one more for the nodes of an answer
abbrev pub decreases-execute_selection_set : goal.decreases-execute_selection_set
decreases-execute_selection_set g l = 2 * deepest (view_singles g.S.ScalarValue.shown l.walk.now.collector l.fields.now)

abbrev pub decreases-objects_of : goal.decreases-objects_of
decreases-objects_of g l = 2 * depth (view_collected g.S.ScalarValue.shown l.walk.now.collector l.field.now).below + 1

-- the fields so far are walked
abbrev pub invariant-execute_selection_set-loop-single : goal.invariant-execute_selection_set-loop-single
invariant-execute_selection_set-loop-single g l =
    let shown = g.S.ScalarValue.shown in
    let view = view_singles shown l.walk.collector in
    IsWalking (g.R.Completer.world l.walk.collector.possible) (path_place l.path.value) l.concrete l.node (view l.fields)
    (view (take l.single-index l.fields)) (view_object shown l.entries) (map (view_listed shown) l.errors.items)

-- and the nodes so far
abbrev pub invariant-objects_of-loop-spot : goal.invariant-objects_of-loop-spot
invariant-objects_of-loop-spot g l =
    let shown = g.S.ScalarValue.shown in
    AreAllWalked (g.R.Completer.world l.walk.collector.possible) (view_collected shown l.walk.collector l.field).below
    (view_nodes (take l.spot-index l.nodes))
    (map (view_value shown) l.values.items) (map (view_listed shown) l.errors.items)
