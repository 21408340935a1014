use Rattle.std.proofs.Common.{◌≡◌, string_bytes, take}
use Rattle.std.specs.List.{flat_map}
use Rattle.juniper_meta.specs.MetaView.{view_enum_value}
use Rattle.juniper_sdl.specs.Definitions.{value_text}
use Rattle.juniper_sdl.proofs.members.values_text.Given as goal

abbrev pub invariant-loop-value : goal.invariant-loop-value
invariant-loop-value l = string_bytes l.text ≡ flat_map (λ v. value_text (view_enum_value v)) (take l.value-index l.values)
