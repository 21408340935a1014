use Rattle.std.proofs.Common.{◌≡◌, ◌++◌, map, drop}
use Rattle.graphql_spec.specs.BuiltIns.{value_named}
use Rattle.juniper_meta.specs.MetaView.{view_enum_value}
use Rattle.juniper_meta.proofs.introspection.values_named.Given as goal

-- what is made, before what is still to be made, is the whole
abbrev pub invariant-loop-name : goal.invariant-loop-name
invariant-loop-name l =
    map view_enum_value l.values.items ++ map value_named (map (λ n. n.now) (drop l.name-index l.names)) ≡ map value_named (map (λ n. n.now) l.names)
