use Rattle.std.proofs.Common.{inl}
use Rattle.std.proofs.lemmas.Result.{IfOk-weaker}
use Rattle.juniper_conversions.proofs.Meanings.{means-Null}
use Rattle.juniper_conversions.proofs.convert.FromInputValue.from_implicit_null.Goals as goal

pub returns : goal.returns
returns g c = IfOk-weaker c.from_input_value.result _ _ (λ answer gives. inl (rw (means-Null g.S.ScalarValue.shown) at gives)) c.from_input_value.ensures
