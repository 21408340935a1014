use Rattle.std.proofs.Common.{◌≡◌, string_bytes, take}
use Rattle.std.specs.List.{flat_map}
use Rattle.juniper_meta.specs.MetaView.{view_field}
use Rattle.juniper_sdl.specs.Definitions.{listed_field}
use Rattle.juniper_sdl.proofs.members.fields_text.Given as goal

abbrev pub invariant-loop-field : goal.invariant-loop-field
invariant-loop-field g l =
    string_bytes l.text ≡ flat_map (λ f. listed_field (view_field g.S.ScalarValue.shown f)) (take l.field-index l.fields)
