use Rattle.std.proofs.Common.{◌∙◌}
use Rattle.juniper_conversions.proofs.field_error.FieldError.try_clone.Goals as goal

pub returns : goal.returns
returns g c =
    let message = c.in_ok-from_str.ensures.ok ∙ c.as_str.ensures.value in
    λ i. record { message = message i; extensions = c.in_ok-try_clone.ensures i }
