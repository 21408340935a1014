use Rattle.std.proofs.Common.{◌≡◌, ◌≤◌}
use Rattle.juniper_lookahead.specs.ShownValues.{listed, fields_listed}
use Rattle.juniper_lookahead.specs.ValueView.{view_look, view_list, view_object, items_shown, fields_shown}
use Rattle.juniper_lookahead.proofs.EqualityLoops.{same_listed, same_fields, weight, items_weight, fields_weight}
use Rattle.juniper_lookahead.proofs.equality.+same_value.Given as goal

abbrev pub decreases-same_list : goal.decreases-same_list
decreases-same_list g l = items_weight (listed (view_list g.S.ScalarValue.shown l.left.now))

abbrev pub decreases-same_object : goal.decreases-same_object
decreases-same_object g l = fields_weight (fields_listed (view_object g.S.ScalarValue.shown l.left.now))

abbrev pub decreases-same_value : goal.decreases-same_value
decreases-same_value g l = weight (view_look g.S.ScalarValue.shown l.left.now)

-- what is left of both decides, and weighs no more than all
abbrev pub invariant-same_list-loop-item : goal.invariant-same_list-loop-item
invariant-same_list-loop-item g l =
    let shown = g.S.ScalarValue.shown in
    let left = items_shown shown l.item-iterator.variables l.item-iterator.left.now in
    (goal.iterator-same_list-loop-item g).can_next l.item-iterator × (goal.iterator-same_list-loop-item g).is_finite l.item-iterator
    × (same_listed left (items_shown shown l.others.variables l.others.left.now) ≡ same_listed (view_list shown l.left) (view_list shown l.right))
    × (items_weight (listed left) ≤ items_weight (listed (view_list shown l.left)))

abbrev pub invariant-same_object-loop-field : goal.invariant-same_object-loop-field
invariant-same_object-loop-field g l =
    let shown = g.S.ScalarValue.shown in
    let left = fields_shown shown l.field-iterator.variables l.field-iterator.left.now in
    (goal.iterator-same_object-loop-field g).can_next l.field-iterator × (goal.iterator-same_object-loop-field g).is_finite l.field-iterator
    × (same_fields left (fields_shown shown l.others.variables l.others.left.now) ≡ same_fields (view_object shown l.left) (view_object shown l.right))
    × (fields_weight (fields_listed left) ≤ fields_weight (fields_listed (view_object shown l.left)))
