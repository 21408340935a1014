use Rattle.std.proofs.Common.{◌≡◌, drop}
use Rattle.juniper_syntax.specs.InputView.{view_items, view_fields}
use Rattle.juniper_sdl.specs.Faults.{are_constants, have_constants}
use Rattle.juniper_sdl.proofs.names.+is_constant.Given as goal

-- what is left decides
abbrev pub invariant-are_constants-loop-item : goal.invariant-are_constants-loop-item
invariant-are_constants-loop-item g l =
    let shown = g.S.ScalarValue.shown in
    are_constants (view_items shown (drop l.item-index l.items)) ≡ are_constants (view_items shown l.items)

abbrev pub invariant-have_constants-loop-field : goal.invariant-have_constants-loop-field
invariant-have_constants-loop-field g l =
    let shown = g.S.ScalarValue.shown in
    have_constants (view_fields shown (drop l.field-index l.fields)) ≡ have_constants (view_fields shown l.fields)
