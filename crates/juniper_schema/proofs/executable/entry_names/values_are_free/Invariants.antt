use Rattle.std.proofs.Common.{◌≡◌, drop, map, not}
use Rattle.std.specs.List.{list_all}
use Rattle.graphql_spec.specs.Executable.{is_reserved}
use Rattle.juniper_meta.specs.MetaView.{view_enum_value}
use Rattle.juniper_schema.proofs.executable.entry_names.values_are_free.Given as goal

-- what is left decides
abbrev pub invariant-loop-value : goal.invariant-loop-value
invariant-loop-value l =
    list_all (λ v. not (is_reserved v.name)) (map view_enum_value (drop l.value-index l.values))
    ≡ list_all (λ v. not (is_reserved v.name)) (map view_enum_value l.values)
