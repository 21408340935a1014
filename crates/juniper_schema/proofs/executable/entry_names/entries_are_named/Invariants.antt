use Rattle.std.proofs.Common.{◌≡◌, map, string_bytes}
use Rattle.std.specs.List.{list_all}
use Rattle.graphql_spec.specs.Executable.{entry_is_named}
use Rattle.juniper_meta.specs.MetaView.{entry_at, view_meta}
use Rattle.juniper_schema.specs.SchemaView.{view_schema}
use Rattle.juniper_schema.proofs.executable.entry_names.entries_are_named.Given as goal

-- what is left decides
abbrev pub invariant-loop-key : goal.invariant-loop-key
invariant-loop-key g l =
    let shown = g.S.ScalarValue.shown in
    (goal.iterator-loop-key g).can_next l.key-iterator ×
    (goal.iterator-loop-key g).is_finite l.key-iterator ×
    (list_all entry_is_named (map (λ e. entry_at (string_bytes e.0) (view_meta shown e.1)) l.key-iterator)
    ≡ list_all entry_is_named (view_schema shown l.schema).entries)
