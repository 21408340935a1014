use Rattle.juniper_conversions.proofs.Meanings.{means-Null}
use Rattle.juniper_conversions.proofs.convert.OptionToInputValue.to_input_value.Goals as goal

pub returns-in-Some : goal.returns-in-Some
returns-in-Some g c = rw c.in-Some.is c.to_input_value.ensures

pub returns-in-None : goal.returns-in-None
returns-in-None g c = rw c.in-None.is (means-Null g.S.ScalarValue.shown)
