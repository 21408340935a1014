use Rattle.juniper_conversions.proofs.field_error.FieldError.new.Goals as goal

pub returns-clause-message : goal.returns-clause-message
returns-clause-message g c = c.in_ok-message.ensures.ok
