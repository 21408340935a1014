use Rattle.juniper_conversions.proofs.Meanings.{means-Null}
use Rattle.juniper_conversions.proofs.wrapped_conversions.NullableToInputValue.to_input_value.Goals as goal

pub returns-in-Some : goal.returns-in-Some
returns-in-Some g c = rw c.in-Some.is c.to_input_value.ensures

pub returns-in-ExplicitNull : goal.returns-in-ExplicitNull
returns-in-ExplicitNull g c = rw c.in-ExplicitNull.is (means-Null g.S.ScalarValue.shown)

pub returns-in-ImplicitNull : goal.returns-in-ImplicitNull
returns-in-ImplicitNull g c = rw c.in-ImplicitNull.is (means-Null g.S.ScalarValue.shown)
