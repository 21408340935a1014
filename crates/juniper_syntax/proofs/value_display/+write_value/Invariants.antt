use denote.Shadow.{shadow}
use denote.Text.{Utf8}
use Rattle.std.proofs.Common.{◌≡◌, ◌≤◌, ◌++◌, drop}
use Rattle.std.specs.Fmt.{HasWritten, IsPlainFormatter}
use Rattle.graphql_spec.specs.Shown.{Text}
use Rattle.graphql_spec.specs.ValueDisplay.{display_values, display_entries}
use Rattle.juniper_syntax.specs.ValueView.{view_value, view_values, view_object, view_entries}
use Rattle.juniper_syntax.proofs.Sizes.{value_size, values_size, entries_size}
use Rattle.juniper_syntax.proofs.ValueDisplays.{separated_values, separated_entries}
use Rattle.juniper_syntax.proofs.value_display.+write_value.Given as goal

abbrev pub decreases-write_value : goal.decreases-write_value
decreases-write_value g l = value_size (view_value g.S.ScalarValue.shown l.value.now)

abbrev pub decreases-write_values : goal.decreases-write_values
decreases-write_values g l = values_size (view_values g.S.ScalarValue.shown l.items.now)

abbrev pub decreases-write_object : goal.decreases-write_object
decreases-write_object g l = entries_size (view_object g.S.ScalarValue.shown l.object.now)

-- what is written, and then what is left, are all
abbrev pub invariant-write_values-loop-item : goal.invariant-write_values-loop-item
invariant-write_values-loop-item g l =
    let shown = g.S.ScalarValue.shown in
    (values_size (view_values shown (drop l.item-index l.items)) ≤ values_size (view_values shown l.items))
    × shadow (Utf8 l.separator) × (done : Text)
    × (done ++ separated_values l.separator (view_values shown (drop l.item-index l.items)) ≡ display_values (view_values shown l.items))
    × (IsPlainFormatter l.initial.f → HasWritten g.W.Write.write_str_gives l.initial.f done l.f)

abbrev pub invariant-write_object-loop-key : goal.invariant-write_object-loop-key
invariant-write_object-loop-key g l =
    let shown = g.S.ScalarValue.shown in
    (entries_size (view_entries shown l.key-iterator) ≤ entries_size (view_object shown l.fn.object))
    × shadow (Utf8 l.separator) × (done : Text)
    × (done ++ separated_entries l.separator (view_entries shown l.key-iterator) ≡ display_entries (view_object shown l.fn.object))
    × (IsPlainFormatter l.initial.f → HasWritten g.W.Write.write_str_gives l.initial.f done l.f)
