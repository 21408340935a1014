use Rattle.juniper_test_root.proofs.sights.+push_value.Given as goal

abbrev pub decreases-push_value : goal.decreases-push_value
decreases-push_value g l = l.levels

abbrev pub invariant-loop-item : goal.invariant-loop-item
invariant-loop-item g l = (goal.iterator-loop-item g).can_next l.item-iterator × (goal.iterator-loop-item g).is_finite l.item-iterator

abbrev pub invariant-loop-name : goal.invariant-loop-name
invariant-loop-name g l = (goal.iterator-loop-name g).can_next l.name-iterator × (goal.iterator-loop-name g).is_finite l.name-iterator
