use Rattle.std.proofs.Common.{◌≡◌, drop}
use Rattle.graphql_spec.specs.Shown.{Name}
use Rattle.juniper_meta.specs.MetaView.{view_names}
use Rattle.juniper_registry.specs.Entries.{KeepsAdding, awaiting_each}
use Rattle.juniper_registry.specs.RegistryView.{view_registry}
use Rattle.juniper_registry.proofs.registry.Registry.await_names.Given as goal

-- what is left leads to what all names lead to
abbrev pub invariant-loop-name : goal.invariant-loop-name
invariant-loop-name g l =
    let shown = g.S.ScalarValue.shown in
    ((n : Name) → awaiting_each (view_names (drop l.name-index l.names)) (view_registry shown l.self) n
    ≡ awaiting_each (view_names l.names) (view_registry shown l.initial.self) n)
    × KeepsAdding (view_registry shown l.initial.self) (view_registry shown l.self)
