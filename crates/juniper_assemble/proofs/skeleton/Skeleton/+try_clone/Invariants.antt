use Rattle.std.proofs.Common.{◌≡◌, map, take}
use Rattle.juniper_assemble.specs.SkeletonView.{view_skeleton}
use Rattle.juniper_assemble.proofs.skeleton.Skeleton.+try_clone.Given as goal

-- the copies so far show the same
abbrev pub invariant-loop-item : goal.invariant-loop-item
invariant-loop-item g l = map (view_skeleton g.S.ScalarValue.shown) l.made.items ≡ map (view_skeleton g.S.ScalarValue.shown) (take l.item-index l.item-items)
