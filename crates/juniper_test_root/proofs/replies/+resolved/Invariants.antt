use Rattle.std.proofs.Common.{◌≡◌, map, take}
use Rattle.juniper_values.specs.ResolvedView.{view_resolved}
use Rattle.juniper_test_root.specs.Scripts.{view_tree}
use Rattle.juniper_test_root.proofs.replies.+resolved.Given as goal

-- what is made are the values so far
abbrev pub invariant-all_resolved-loop-tree : goal.invariant-all_resolved-loop-tree
invariant-all_resolved-loop-tree g l = map (view_resolved g.S.ScalarValue.shown) l.made.items ≡ map view_tree (take l.tree-index l.trees)
