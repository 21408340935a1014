use Rattle.std.proofs.Common.{◌≡◌, true}
use Rattle.std.specs.Vec.Iter.{into_iter_items}
use Rattle.graphql_spec.specs.Laws.{In}
use Rattle.graphql_spec.specs.Shown.{Name}
use Rattle.juniper_written.specs.WrittenView.{has_name, view_names}
use Rattle.juniper_type_rules.proofs.LeavingOut.{PassAlike}
use Rattle.juniper_type_rules.proofs.once.names_once.Given as goal

-- what is kept and what is left pass the tests that all pass, and what was seen is kept
abbrev pub invariant-loop-name : goal.invariant-loop-name
invariant-loop-name l =
    PassAlike (view_names l.kept.items) (view_names (into_iter_items l.name-iterator)) (view_names (into_iter_items l.initial.name-iterator))
    × ((n : Name) → has_name l.seen n ≡ true → In n (view_names l.kept.items))
