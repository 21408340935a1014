use Rattle.std.proofs.Common.{◌≡◌, ◌++◌}
use Rattle.juniper_field_graph.specs.CallParts.{joined_parts, view_members, view_parts}
use Rattle.juniper_field_graph.proofs.call_parts.put_members.Given as goal

-- what was put, and what is left
abbrev pub invariant-loop-name : goal.invariant-loop-name
invariant-loop-name l =
    view_parts l.parts.items ++ joined_parts (view_members l.name-iterator)
    ≡ view_parts l.initial.parts.items ++ joined_parts (view_members l.by_name.entries)
