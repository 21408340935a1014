use Rattle.std.proofs.Common.{map}
use Rattle.std.specs.Vec.Iter.{into_iter_items}
use Rattle.graphql_spec.specs.Skeletons.{fill_all}
use Rattle.juniper_syntax.specs.ValueView.{view_values}
use Rattle.juniper_assemble.specs.SkeletonView.{AreFilling, skeletons_of, view_skeleton}
use Rattle.juniper_walk.specs.Rows.{values_of}
use Rattle.juniper_walk.proofs.Holes.{AreTakenSoFar}
use Rattle.juniper_walk.proofs.filling.+fill_walked.Given as goal

-- what is made goes before what is left
abbrev pub invariant-loop-item : goal.invariant-loop-item
invariant-loop-item g l =
    let shown = g.S.ScalarValue.shown in
    let all = skeletons_of (map (view_skeleton shown) (into_iter_items l.initial.item-iterator)) in
    let rest = skeletons_of (map (view_skeleton shown) (into_iter_items l.item-iterator)) in
    record {
      filling : AreFilling (view_values shown l.made.items) rest (values_of shown (into_iter_items l.objects))
          (fill_all all (values_of shown (into_iter_items l.initial.objects)));
      taken : AreTakenSoFar shown all rest (into_iter_items l.initial.objects) (into_iter_items l.objects) l.initial.errors.items l.errors.items;
    }
