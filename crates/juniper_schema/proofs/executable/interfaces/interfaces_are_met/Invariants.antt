use Rattle.std.proofs.Common.{◌≡◌, map, string_bytes}
use Rattle.std.specs.List.{list_all}
use Rattle.std.specs.Prelude.{Some}
use Rattle.graphql_spec.specs.Executable.{implements}
use Rattle.graphql_spec.specs.Fields.{interfaces_of}
use Rattle.juniper_meta.specs.MetaView.{entry_at, view_meta}
use Rattle.juniper_schema.specs.SchemaView.{view_schema}
use Rattle.juniper_schema.proofs.executable.interfaces.interfaces_are_met.Given as goal

-- what is left decides
abbrev pub invariant-loop-key : goal.invariant-loop-key
invariant-loop-key g l =
    let shown = g.S.ScalarValue.shown in let s = view_schema shown l.schema in
    (goal.iterator-loop-key g).can_next l.key-iterator ×
    (goal.iterator-loop-key g).is_finite l.key-iterator ×
    (list_all (λ e. list_all (implements s e.key e.shape) (interfaces_of (Some e.shape)))
    (map (λ e. entry_at (string_bytes e.0) (view_meta shown e.1)) l.key-iterator)
    ≡ list_all (λ e. list_all (implements s e.key e.shape) (interfaces_of (Some e.shape))) s.entries)
