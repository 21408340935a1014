use Rattle.std.proofs.Common.{◌≡◌}
use Rattle.juniper_field_graph.specs.CallParts.{listed_parts, view_members}
use Rattle.juniper_field_graph.proofs.CallMembers.{last_members}
use Rattle.juniper_field_graph.proofs.call_parts.arguments_by_name.Given as goal

-- the last ones were put
abbrev pub invariant-loop-turn : goal.invariant-loop-turn
invariant-loop-turn g l = view_members l.by_name.entries ≡ listed_parts (last_members (λ n. n.now) g.S.ScalarValue.shown l.arguments l.turn)
