use Rattle.std.proofs.Common.{◌≡◌, drop}
use Rattle.juniper_syntax.specs.InputView.{view_items, view_fields}
use Rattle.juniper_syntax.proofs.InputLists.{append_items, append_fields}
use Rattle.juniper_syntax.proofs.input.+try_clone.Given as goal

-- what is made, and then what is left, are all
abbrev pub invariant-clone_fields-loop-field : goal.invariant-clone_fields-loop-field
invariant-clone_fields-loop-field g l =
    let shown = g.S.ScalarValue.shown in
    append_fields (view_fields shown l.made.items) (view_fields shown (drop l.field-index l.fields)) ≡ view_fields shown l.fields

abbrev pub invariant-clone_items-loop-item : goal.invariant-clone_items-loop-item
invariant-clone_items-loop-item g l =
    let shown = g.S.ScalarValue.shown in
    append_items (view_items shown l.made.items) (view_items shown (drop l.item-index l.items)) ≡ view_items shown l.items
