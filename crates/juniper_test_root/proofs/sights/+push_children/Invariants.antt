use Rattle.juniper_test_root.proofs.sights.+push_children.Given as goal

abbrev pub decreases-push_children : goal.decreases-push_children
decreases-push_children g l = l.levels

abbrev pub invariant-loop-child : goal.invariant-loop-child
invariant-loop-child g l = (goal.iterator-loop-child g).can_next l.child-iterator × (goal.iterator-loop-child g).is_finite l.child-iterator
