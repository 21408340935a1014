use Rattle.std.proofs.Common.{refl}
use Rattle.juniper_conversions.proofs.field_error.FieldError.map_message.Goals as goal

pub returns-clause-extensions : goal.returns-clause-extensions
returns-clause-extensions g c = refl
