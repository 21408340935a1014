use Rattle.std.proofs.Common.{string_bytes}
use Rattle.juniper_conversions.proofs.field_error.FieldError.map_scalar_value.Goals as goal

pub returns : goal.returns
returns g c = λ i. record { message = string_bytes c.args.self.message; extensions = c.in_ok-map_scalar_value.ensures i }
