use Rattle.juniper_conversions.proofs.into_field_error.FieldErrorIntoFieldError.into_field_error.Goals as goal

pub returns : goal.returns
returns g c = c.map_scalar_value.ensures
