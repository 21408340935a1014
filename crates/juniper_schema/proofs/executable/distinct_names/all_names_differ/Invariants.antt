use Rattle.std.proofs.Common.{◌≡◌, map, string_bytes}
use Rattle.std.specs.List.{list_all}
use Rattle.graphql_spec.specs.Executable.{entry_names_differ}
use Rattle.juniper_meta.specs.MetaView.{entry_at, view_meta}
use Rattle.juniper_schema.specs.SchemaView.{view_schema}
use Rattle.juniper_schema.proofs.executable.distinct_names.all_names_differ.Given as goal

-- what is left decides
abbrev pub invariant-loop-meta : goal.invariant-loop-meta
invariant-loop-meta g l =
    let shown = g.S.ScalarValue.shown in let s = view_schema shown l.schema in
    (goal.iterator-loop-meta g).can_next l.meta-iterator ×
    (goal.iterator-loop-meta g).is_finite l.meta-iterator ×
    (list_all (λ e. entry_names_differ s e.shape) (map (λ e. entry_at (string_bytes e.0) (view_meta shown e.1)) l.meta-iterator)
    ≡ list_all (λ e. entry_names_differ s e.shape) s.entries)
