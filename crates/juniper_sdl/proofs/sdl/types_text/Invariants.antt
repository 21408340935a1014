use Rattle.std.proofs.Common.{◌≡◌, string_bytes, take}
use Rattle.std.specs.List.{flat_map}
use Rattle.juniper_schema.specs.MadeTypes.{view_made}
use Rattle.juniper_sdl.specs.Definitions.{made_text}
use Rattle.juniper_sdl.proofs.sdl.types_text.Given as goal

abbrev pub invariant-loop-declared : goal.invariant-loop-declared
invariant-loop-declared g l =
    string_bytes l.text ≡ flat_map (λ t. made_text (view_made g.S.ScalarValue.shown t)) (take l.declared-index l.types)
