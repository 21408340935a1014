use Rattle.std.proofs.Common.{◌≡◌, drop, map}
use Rattle.std.specs.List.{list_all}
use Rattle.juniper_meta.specs.MetaView.{view_enum_value}
use Rattle.juniper_sdl.specs.Faults.{value_is_written}
use Rattle.juniper_sdl.proofs.faults.values_are_written.Given as goal

-- what is left decides
abbrev pub invariant-loop-value : goal.invariant-loop-value
invariant-loop-value l =
    let seen = view_enum_value in list_all value_is_written (map seen (drop l.value-index l.values)) ≡ list_all value_is_written (map seen l.values)
