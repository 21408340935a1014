use Rattle.std.proofs.Common.{◌≤◌, drop}
use Rattle.juniper_syntax.specs.ValueView.{view_value, view_values, view_object, view_entries}
use Rattle.juniper_json.specs.AnswerText.{values_data, entries_data}
use Rattle.juniper_json.proofs.Sending.{Goes, GoesInside}
use Rattle.juniper_syntax.proofs.Sizes.{value_size, values_size, entries_size}
use Rattle.juniper_json.proofs.line.+send.Given as goal

abbrev pub decreases-send_value : goal.decreases-send_value
decreases-send_value g l = value_size (view_value g.S.ScalarValue.shown l.value.now)

abbrev pub decreases-send_items : goal.decreases-send_items
decreases-send_items g l = values_size (view_values g.S.ScalarValue.shown l.items.now)

abbrev pub decreases-send_entries : goal.decreases-send_entries
decreases-send_entries g l = entries_size (view_object g.S.ScalarValue.shown l.entries.now)

abbrev pub invariant-send_items-loop-item : goal.invariant-send_items-loop-item
invariant-send_items-loop-item g l =
    (values_size (view_values g.S.ScalarValue.shown (drop l.item-index l.items)) ≤ values_size (view_values g.S.ScalarValue.shown l.items)) ×
    Goes (values_data (view_values g.S.ScalarValue.shown l.items)) (g.W.Serializer.written l.initial.out)
    (values_data (view_values g.S.ScalarValue.shown (drop l.item-index l.items))) (g.W.Serializer.written l.out)

abbrev pub invariant-send_entries-loop-key : goal.invariant-send_entries-loop-key
invariant-send_entries-loop-key g l =
    (goal.iterator-send_entries-loop-key g).can_next l.key-iterator ×
    (goal.iterator-send_entries-loop-key g).is_finite l.key-iterator ×
    (entries_size (view_entries g.S.ScalarValue.shown l.key-iterator) ≤ entries_size (view_object g.S.ScalarValue.shown l.fn.entries)) ×
    GoesInside (entries_data (view_object g.S.ScalarValue.shown l.fn.entries)) (g.W.Serializer.written l.initial.out)
    (entries_data (view_entries g.S.ScalarValue.shown l.key-iterator)) (g.W.Serializer.written l.out)
