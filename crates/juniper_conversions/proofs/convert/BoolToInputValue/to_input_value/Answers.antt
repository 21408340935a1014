use Rattle.std.proofs.Common.{ap, ◌∙◌}
use Rattle.graphql_spec.specs.Constants.{scalar}
use Rattle.juniper_conversions.proofs.Meanings.{means-Scalar}
use Rattle.juniper_conversions.proofs.convert.BoolToInputValue.to_input_value.Goals as goal

pub returns : goal.returns
returns g c = means-Scalar g.S.ScalarValue.shown c.from_bool.result ∙ ap scalar c.from_bool.ensures
