use Rattle.std.proofs.Common.{ap, ◌∙◌}
use Rattle.graphql_spec.specs.Constants.{scalar}
use Rattle.graphql_spec.specs.Shown.{text}
use Rattle.juniper_conversions.proofs.Meanings.{means-Scalar}
use Rattle.juniper_conversions.proofs.convert.StringToInputValue.to_input_value.Goals as goal

pub returns : goal.returns
returns g c =
    means-Scalar g.S.ScalarValue.shown c.in_ok-from_text.field-0
    ∙ ap scalar (c.in_ok-from_text.ensures ∙ ap text (c.in_ok-from_str.ensures.ok ∙ c.as_str.ensures.value))
