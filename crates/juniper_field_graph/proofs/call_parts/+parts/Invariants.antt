use Rattle.std.proofs.Common.{◌≡◌, ◌++◌, drop, string_bytes}
use Rattle.graphql_spec.specs.Constants.{meanings}
use Rattle.juniper_syntax.specs.InputView.{view_items}
use Rattle.juniper_field_graph.specs.CallParts.{item_parts, listed_parts, view_members, view_parts}
use Rattle.juniper_field_graph.proofs.CallMembers.{last_members}
use Rattle.juniper_field_graph.proofs.call_parts.+parts.Given as goal

-- what was put, and what is left
abbrev pub invariant-put_items-loop-item : goal.invariant-put_items-loop-item
invariant-put_items-loop-item g l =
    let shown = g.S.ScalarValue.shown in
    view_parts l.parts.items ++ item_parts (meanings (view_items shown (drop l.item-index l.items)))
    ≡ view_parts l.initial.parts.items ++ item_parts (meanings (view_items shown l.items))

-- the last ones were put
abbrev pub invariant-put_fields-loop-turn : goal.invariant-put_fields-loop-turn
invariant-put_fields-loop-turn g l = view_members l.by_name.entries ≡ listed_parts (last_members (λ n. string_bytes n) g.S.ScalarValue.shown l.fields l.turn)
