use Rattle.std.proofs.Common.{◌≡◌, drop, map}
use Rattle.juniper_meta.specs.MetaView.{view_enum_value}
use Rattle.juniper_schema.specs.Faults.{value_meets}
use Rattle.juniper_schema.specs.Searching.{first_failing}
use Rattle.juniper_schema.proofs.faults.parts.first_value.Given as goal

-- what is left decides
abbrev pub invariant-loop-value : goal.invariant-loop-value
invariant-loop-value l =
    first_failing (λ v. v.name) (value_meets l.demand) (map view_enum_value (drop l.value-index l.values))
    ≡ first_failing (λ v. v.name) (value_meets l.demand) (map view_enum_value l.values)
