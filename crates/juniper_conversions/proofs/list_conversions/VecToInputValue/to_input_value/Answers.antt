use Rattle.std.proofs.Common.{◌∙◌, ap, map}
use Rattle.graphql_spec.specs.Constants.{list}
use Rattle.juniper_conversions.specs.ListConversions.{constants_of}
use Rattle.juniper_conversions.proofs.Meanings.{means-List}
use Rattle.juniper_conversions.proofs.list_conversions.VecToInputValue.to_input_value.Goals as goal

pub returns : goal.returns
returns g c =
    means-List g.S.ScalarValue.shown c.in_ok-write_items.field-0
    ∙ ap list (c.in_ok-write_items.ensures ∙ ap (λ vs. constants_of (map g.T.ToInputValue.input vs)) c.as_slice.ensures.value)
