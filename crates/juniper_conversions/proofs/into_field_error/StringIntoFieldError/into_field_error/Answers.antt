use Rattle.juniper_conversions.proofs.into_field_error.StringIntoFieldError.into_field_error.Goals as goal

pub returns : goal.returns
returns g c = c.error_of_message.ensures
