use Rattle.std.proofs.Common.{◌≡◌, map, drop}
use Rattle.graphql_spec.specs.Fields.{declares_value}
use Rattle.juniper_meta.specs.MetaView.{view_enum_value}
use Rattle.juniper_meta.proofs.declaration.declares_value.Given as goal

-- what is left decides
abbrev pub invariant-loop-value : goal.invariant-loop-value
invariant-loop-value l = declares_value (map view_enum_value l.values) l.name ≡ declares_value (map view_enum_value (drop l.value-index l.values)) l.name
