use Rattle.std.proofs.Common.{string_bytes}
use Rattle.juniper_meta.specs.MetaView.{view_field}
use Rattle.juniper_sdl.proofs.Lists.{all_said}
use Rattle.juniper_sdl.specs.Definitions.{listed_field}
use Rattle.juniper_sdl.proofs.members.fields_text.Goals as goal

pub returns : goal.returns
returns g c =
    all_said listed_field (view_field g.S.ScalarValue.shown) c.args.fields.now c.loop-field.field-index (string_bytes c.loop-field.text) c.loop-field-test.false
    c.loop-field.invariant
