use Rattle.std.proofs.Common.{ap, ◌∙◌}
use Rattle.juniper_conversions.specs.Messages.{message_alone}
use Rattle.juniper_conversions.proofs.into_field_error.CowStrIntoFieldError.into_field_error.Goals as goal

pub returns : goal.returns
returns g c = c.error_of_message.ensures ∙ ap message_alone c.in_ok-into_owned.ensures.ok
