use Rattle.std.proofs.Common.{◌≡◌, map, string_bytes, take}
use Rattle.juniper_meta.specs.MetaView.{view_argument}
use Rattle.juniper_sdl.specs.Definitions.{argument_text}
use Rattle.juniper_sdl.proofs.members.argument_texts.Given as goal

abbrev pub invariant-loop-argument : goal.invariant-loop-argument
invariant-loop-argument g l =
    map (λ t. string_bytes t) l.texts.items ≡ map (λ a. argument_text (view_argument g.S.ScalarValue.shown a)) (take l.argument-index l.arguments)
