use Rattle.std.proofs.Common.{◌≡◌, ◌++◌, map}
use Rattle.juniper_json.specs.Each.{refused_in, view_refused}
use Rattle.serde_json.specs.View.{members_view}
use Rattle.juniper_json.proofs.given.refused_variables.Given as goal

-- what is listed, and then what is refused of the members that are left, is all
abbrev pub invariant-loop-name : goal.invariant-loop-name
invariant-loop-name l =
    map view_refused l.made.items ++ refused_in (members_view l.name-iterator) ≡ refused_in (members_view l.members.entries)
