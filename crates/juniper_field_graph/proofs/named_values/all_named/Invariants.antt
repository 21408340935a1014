use Rattle.std.proofs.Common.{◌≡◌, drop}
use Rattle.juniper_field_graph.specs.NamedValues.{view_named}
use Rattle.juniper_field_graph.specs.SameValues.{all_keyed}
use Rattle.juniper_field_graph.proofs.named_values.all_named.Given as goal

-- what is left decides
abbrev pub invariant-loop-value : goal.invariant-loop-value
invariant-loop-value g l =
    let shown = g.S.ScalarValue.shown in
    let others = view_named g.M.AsStr.text shown l.others in
    all_keyed (view_named g.N.AsStr.text shown (drop l.value-index l.values)) others ≡ all_keyed (view_named g.N.AsStr.text shown l.values) others
