use Rattle.std.proofs.Common.{◌≡◌, map, string_bytes}
use Rattle.std.specs.List.{list_all}
use Rattle.juniper_meta.specs.MetaView.{entry_at, view_meta}
use Rattle.juniper_registry.specs.Entries.{type_entries}
use Rattle.juniper_test_root.specs.OwnNames.{entry_is_own}
use Rattle.juniper_test_root.proofs.registry.are_own.Given as goal

-- what is left decides
abbrev pub invariant-loop-key : goal.invariant-loop-key
invariant-loop-key g l =
    let shown = g.S.ScalarValue.shown in
    (goal.iterator-loop-key g).can_next l.key-iterator ×
    (goal.iterator-loop-key g).is_finite l.key-iterator ×
    (list_all entry_is_own (map (λ e. entry_at (string_bytes e.0) (view_meta shown e.1)) l.key-iterator) ≡ list_all entry_is_own (type_entries shown l.types))
