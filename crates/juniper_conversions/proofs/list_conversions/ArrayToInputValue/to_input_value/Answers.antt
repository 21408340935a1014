use Rattle.std.proofs.Common.{◌∙◌, ap}
use Rattle.graphql_spec.specs.Constants.{list}
use Rattle.juniper_conversions.proofs.Meanings.{means-List}
use Rattle.juniper_conversions.proofs.list_conversions.ArrayToInputValue.to_input_value.Goals as goal

pub returns : goal.returns
returns g c = means-List g.S.ScalarValue.shown c.in_ok-write_items.field-0 ∙ ap list c.in_ok-write_items.ensures
