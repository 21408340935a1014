-- How declarations are seen with the names that they stand at. Only private clauses cite it.
use Rattle.graphql_spec.specs.Shown.{Shown}
use Rattle.graphql_spec.specs.Schema.{Entry}
use Rattle.juniper_meta.specs.MetaView.{entry_at, view_meta}
use Rattle.juniper_schema.specs.declared.lists.NamedType.{NamedType}

abbrev pub view_named : {S : Type 0} → (S → Shown) → NamedType S → Entry
view_named shown t = entry_at t.name.now (view_meta shown t.meta.now)
