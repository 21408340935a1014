use Rattle.std.proofs.Common.{◌≡◌, ◌++◌, map, string_bytes}
use Rattle.std.specs.Vec.Iter.{into_iter_items}
use Rattle.graphql_spec.specs.Errors.{index}
use Rattle.juniper_conversions.specs.PathView.{path_place}
use Rattle.juniper_syntax.specs.TypeView.{view_type}
use Rattle.juniper_assemble.specs.Apart.{AreApart, layers_of}
use Rattle.juniper_values.specs.ResolvedView.{trees_of, view_resolved}
use Rattle.juniper_assemble.specs.SkeletonView.{skeletons_of, view_skeleton}
use Rattle.juniper_assemble.specs.SpotView.{view_faults, view_nodes}
use Rattle.juniper_assemble.proofs.apart.+item_apart.Given as goal

abbrev pub decreases-item_apart : goal.decreases-item_apart
decreases-item_apart g l = layers_of (view_resolved g.S.ScalarValue.shown l.resolved)

-- what is made goes before what is left, and the positions are those of the list
abbrev pub invariant-loop-item : goal.invariant-loop-item
invariant-loop-item g l =
    let shown = g.S.ScalarValue.shown in
    AreApart (g.C.Completer.world l.completer) (path_place l.path.value ++ map index l.initial.positions.items) l.made.len
    (view_type (λ n. string_bytes n) l.inner) (skeletons_of (map (view_skeleton shown) l.made.items))
    (trees_of (map (view_resolved shown) (into_iter_items l.item-iterator))) (trees_of (map (view_resolved shown) (into_iter_items l.initial.item-iterator)))
    (view_nodes l.initial.nodes.items) (view_nodes l.nodes.items) (view_faults l.initial.faults.items) (view_faults l.faults.items)
    × (l.positions.items ≡ l.initial.positions.items)
