use denote.Shadow.{shadow}
use denote.Text.{Utf8}
use Rattle.std.proofs.Common.{◌≡◌, ◌++◌, drop}
use Rattle.std.specs.Fmt.{HasWritten, IsPlainFormatter}
use Rattle.graphql_spec.specs.Shown.{Text}
use Rattle.graphql_spec.specs.Display.{display_items, display_fields}
use Rattle.juniper_syntax.specs.InputView.{view_items, view_fields}
use Rattle.juniper_syntax.proofs.Displays.{separated_items, separated_fields}
use Rattle.juniper_syntax.proofs.display.+write_input.Given as goal

-- what is written, and then what is left, are all
abbrev pub invariant-write_items-loop-item : goal.invariant-write_items-loop-item
invariant-write_items-loop-item g l =
    let shown = g.S.ScalarValue.shown in
    shadow (Utf8 l.separator) × (done : Text)
    × (done ++ separated_items l.separator (view_items shown (drop l.item-index l.items)) ≡ display_items (view_items shown l.items))
    × (IsPlainFormatter l.initial.f → HasWritten g.W.Write.write_str_gives l.initial.f done l.f)

abbrev pub invariant-write_fields-loop-field : goal.invariant-write_fields-loop-field
invariant-write_fields-loop-field g l =
    let shown = g.S.ScalarValue.shown in
    shadow (Utf8 l.separator) × (done : Text)
    × (done ++ separated_fields l.separator (view_fields shown (drop l.field-index l.fields)) ≡ display_fields (view_fields shown l.fields))
    × (IsPlainFormatter l.initial.f → HasWritten g.W.Write.write_str_gives l.initial.f done l.f)
