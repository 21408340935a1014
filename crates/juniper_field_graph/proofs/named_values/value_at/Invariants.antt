use Rattle.std.proofs.Common.{◌≡◌, drop}
use Rattle.juniper_field_graph.specs.NamedValues.{view_named}
use Rattle.juniper_field_graph.specs.SameValues.{field_at}
use Rattle.juniper_field_graph.proofs.named_values.value_at.Given as goal

-- what is left decides
abbrev pub invariant-loop-value : goal.invariant-loop-value
invariant-loop-value g l =
    field_at (view_named g.N.AsStr.text g.S.ScalarValue.shown (drop l.value-index l.values)) l.name
    ≡ field_at (view_named g.N.AsStr.text g.S.ScalarValue.shown l.values) l.name
