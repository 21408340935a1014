use Rattle.std.proofs.Common.{◌≡◌, ◌++◌, map, string_bytes}
use Rattle.std.specs.List.{filter}
use Rattle.graphql_spec.specs.Introspected.{is_implementer}
use Rattle.juniper_meta.specs.MetaView.{entry_at, view_meta}
use Rattle.juniper_schema.specs.ListedTypes.{view_named}
use Rattle.juniper_schema.specs.SchemaView.{view_schema}
use Rattle.juniper_schema.proofs.schema.SchemaType.objects_of.Given as goal

-- what is put in, and then what is left, are those of the entries
abbrev pub invariant-loop-name : goal.invariant-loop-name
invariant-loop-name g l =
    let shown = g.S.ScalarValue.shown in
    (goal.iterator-loop-name g).can_next l.name-iterator ×
    (goal.iterator-loop-name g).is_finite l.name-iterator ×
    (map (view_named shown) l.types.items ++ filter (is_implementer l.interface) (map (λ e. entry_at (string_bytes e.0) (view_meta shown e.1)) l.name-iterator)
    ≡ filter (is_implementer l.interface) (view_schema shown l.self).entries)
