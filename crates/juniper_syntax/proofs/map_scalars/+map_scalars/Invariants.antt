use Rattle.std.proofs.Common.{◌≡◌, drop}
use Rattle.juniper_syntax.specs.ValueView.{view_values}
use Rattle.juniper_syntax.proofs.ValueLists.{append_values}
use Rattle.juniper_syntax.proofs.map_scalars.+map_scalars.Given as goal

-- what is made, and then what is left, are all
abbrev pub invariant-map_values-loop-item : goal.invariant-map_values-loop-item
invariant-map_values-loop-item g l =
    let seen = g.S.ScalarValue.shown in
    append_values (view_values g.T.ScalarValue.shown l.made.items) (view_values seen (drop l.item-index l.items)) ≡ view_values seen l.items
