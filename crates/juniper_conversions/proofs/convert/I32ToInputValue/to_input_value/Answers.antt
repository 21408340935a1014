use Rattle.std.proofs.Common.{rules}
use Rattle.juniper_conversions.proofs.Meanings.{means-Scalar}
use Rattle.juniper_conversions.proofs.convert.I32ToInputValue.to_input_value.Goals as goal

pub returns : goal.returns
returns g c = rw (means-Scalar g.S.ScalarValue.shown c.from_int.result) (search rules)
