use Rattle.std.proofs.Common.{string_bytes}
use Rattle.juniper_meta.specs.MetaView.{view_enum_value}
use Rattle.juniper_sdl.proofs.Lists.{all_said}
use Rattle.juniper_sdl.specs.Definitions.{value_text}
use Rattle.juniper_sdl.proofs.members.values_text.Goals as goal

pub returns : goal.returns
returns c =
    all_said value_text view_enum_value c.args.values.now c.loop-value.value-index (string_bytes c.loop-value.text) c.loop-value-test.false
    c.loop-value.invariant
