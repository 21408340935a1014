use Rattle.std.proofs.Common.{◌≡◌, drop, map}
use Rattle.std.specs.List.{list_all}
use Rattle.graphql_spec.specs.Executable.{is_value_name}
use Rattle.juniper_meta.specs.MetaView.{view_enum_value}
use Rattle.juniper_schema.proofs.executable.distinct_names.are_value_names.Given as goal

-- what is left decides
abbrev pub invariant-loop-value : goal.invariant-loop-value
invariant-loop-value l =
    list_all (λ v. is_value_name v.name) (map view_enum_value (drop l.value-index l.values))
    ≡ list_all (λ v. is_value_name v.name) (map view_enum_value l.values)
