use Rattle.std.proofs.Common.{◌≡◌, ◌++◌, drop, map}
use Rattle.graphql_spec.specs.BuiltIns.{value_named}
use Rattle.juniper_meta.specs.MetaView.{view_enum_value}
use Rattle.juniper_registry.proofs.declarations.values_of.Given as goal

-- what is made, before what is still to be made, is the whole
abbrev pub invariant-loop-text : goal.invariant-loop-text
invariant-loop-text l =
    map view_enum_value l.values.items ++ map value_named (map (λ n. n.now) (drop l.text-index l.texts)) ≡ map value_named (map (λ n. n.now) l.texts)
