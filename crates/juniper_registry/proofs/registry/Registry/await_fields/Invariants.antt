use Rattle.std.proofs.Common.{◌≡◌, drop, map}
use Rattle.graphql_spec.specs.Shown.{Name}
use Rattle.juniper_meta.specs.MetaView.{view_field}
use Rattle.juniper_registry.specs.Entries.{KeepsAdding, awaiting_each}
use Rattle.juniper_registry.specs.Referred.{fields_refer}
use Rattle.juniper_registry.specs.RegistryView.{view_registry}
use Rattle.juniper_registry.proofs.registry.Registry.await_fields.Given as goal

-- what is left leads to what all fields lead to
abbrev pub invariant-loop-field : goal.invariant-loop-field
invariant-loop-field g l =
    let shown = g.S.ScalarValue.shown in
    ((n : Name) → awaiting_each (fields_refer (map (view_field shown) (drop l.field-index l.fields))) (view_registry shown l.self) n
    ≡ awaiting_each (fields_refer (map (view_field shown) l.fields)) (view_registry shown l.initial.self) n)
    × KeepsAdding (view_registry shown l.initial.self) (view_registry shown l.self)
