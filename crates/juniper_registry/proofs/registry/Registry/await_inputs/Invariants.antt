use Rattle.std.proofs.Common.{◌≡◌, drop, map}
use Rattle.graphql_spec.specs.Shown.{Name}
use Rattle.juniper_meta.specs.MetaView.{view_argument}
use Rattle.juniper_registry.specs.Entries.{KeepsAdding, awaiting_each}
use Rattle.juniper_registry.specs.Referred.{inputs_refer}
use Rattle.juniper_registry.specs.RegistryView.{view_registry}
use Rattle.juniper_registry.proofs.registry.Registry.await_inputs.Given as goal

-- what is left leads to what all inputs lead to
abbrev pub invariant-loop-input : goal.invariant-loop-input
invariant-loop-input g l =
    let shown = g.S.ScalarValue.shown in
    ((n : Name) → awaiting_each (inputs_refer (map (view_argument shown) (drop l.input-index l.inputs))) (view_registry shown l.self) n
    ≡ awaiting_each (inputs_refer (map (view_argument shown) l.inputs)) (view_registry shown l.initial.self) n)
    × KeepsAdding (view_registry shown l.initial.self) (view_registry shown l.self)
