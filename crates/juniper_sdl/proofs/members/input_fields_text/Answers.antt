use Rattle.std.proofs.Common.{string_bytes}
use Rattle.juniper_meta.specs.MetaView.{view_argument}
use Rattle.juniper_sdl.proofs.Lists.{all_said}
use Rattle.juniper_sdl.specs.Definitions.{input_field_text}
use Rattle.juniper_sdl.proofs.members.input_fields_text.Goals as goal

pub returns : goal.returns
returns g c =
    all_said input_field_text (view_argument g.S.ScalarValue.shown) c.args.fields.now c.loop-field.field-index (string_bytes c.loop-field.text)
    c.loop-field-test.false c.loop-field.invariant
