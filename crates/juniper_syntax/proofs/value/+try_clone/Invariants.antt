use Rattle.std.proofs.Common.{◌≡◌, drop}
use Rattle.juniper_syntax.specs.ValueView.{view_values}
use Rattle.juniper_syntax.proofs.ValueLists.{append_values}
use Rattle.juniper_syntax.proofs.value.+try_clone.Given as goal

-- what is made, and then what is left, are all
abbrev pub invariant-clone_values-loop-item : goal.invariant-clone_values-loop-item
invariant-clone_values-loop-item g l =
    let shown = g.S.ScalarValue.shown in
    append_values (view_values shown l.made.items) (view_values shown (drop l.item-index l.items)) ≡ view_values shown l.items
