use Rattle.std.proofs.Common.{◌≡◌, ◌++◌, map, drop, string_bytes}
use Rattle.std.specs.List.{filter}
use Rattle.juniper_meta.specs.MetaView.{entry_at, own_entry, view_meta}
use Rattle.juniper_schema.specs.ListedTypes.{view_named}
use Rattle.juniper_schema.specs.SchemaView.{view_schema}
use Rattle.graphql_spec.specs.TypeList.{has_listed_name}
use Rattle.juniper_schema.proofs.schema.SchemaType.listed_types.Given as goal

-- what is put in, and then what is left, are the entries
abbrev pub invariant-loop-name : goal.invariant-loop-name
invariant-loop-name g l =
    let shown = g.S.ScalarValue.shown in
    (goal.iterator-loop-name g).can_next l.name-iterator ×
    (goal.iterator-loop-name g).is_finite l.name-iterator ×
    (map (view_named shown) l.types.items ++ filter has_listed_name (map (λ e. entry_at (string_bytes e.0) (view_meta shown e.1)) l.name-iterator)
    ≡ filter has_listed_name (view_schema shown l.self).entries)

-- what is put in, and then what is left, are the entries and the types of introspection
abbrev pub invariant-loop-meta : goal.invariant-loop-meta
invariant-loop-meta g l =
    let shown = g.S.ScalarValue.shown in
    map (view_named shown) l.types.items ++ filter has_listed_name (map (own_entry shown) (drop l.meta-index l.meta-items))
    ≡ filter has_listed_name ((view_schema shown l.self).entries ++ map (own_entry shown) l.meta-items)
