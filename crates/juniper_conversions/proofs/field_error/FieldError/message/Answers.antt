use Rattle.juniper_conversions.proofs.field_error.FieldError.message.Goals as goal

pub returns : goal.returns
returns g c = c.as_str.ensures.value
