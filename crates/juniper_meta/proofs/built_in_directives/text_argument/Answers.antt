use Rattle.std.proofs.Common.{ap₂, ◌∙◌}
use Rattle.juniper_meta.specs.MetaView.{with_default}
use Rattle.juniper_meta.proofs.built_in_directives.text_argument.Goals as goal

pub returns : goal.returns
returns g c = c.default_value.ensures ∙ ap₂ with_default c.in_ok-maybe_argument.ensures c.in_ok-value.ensures
