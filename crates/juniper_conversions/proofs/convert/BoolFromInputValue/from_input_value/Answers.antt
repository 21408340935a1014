use Rattle.std.proofs.Common.{sym}
use Rattle.juniper_conversions.proofs.convert.BoolFromInputValue.from_input_value.Goals as goal

pub returns-in-Some : goal.returns-in-Some
returns-in-Some g c = sym c.in-Some.ensures
