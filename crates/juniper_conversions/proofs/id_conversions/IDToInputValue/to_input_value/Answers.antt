use Rattle.std.proofs.Common.{ap, ◌∙◌}
use Rattle.graphql_spec.specs.Constants.{scalar}
use Rattle.juniper_conversions.proofs.Meanings.{means-Scalar}
use Rattle.juniper_conversions.proofs.id_conversions.IDToInputValue.to_input_value.Goals as goal

pub returns : goal.returns
returns g c = means-Scalar g.S.ScalarValue.shown c.in_ok-to_scalar_value.field-0 ∙ ap scalar c.in_ok-to_scalar_value.ensures
