use Rattle.std.proofs.Common.{◌≡◌, map, take}
use Rattle.graphql_spec.specs.Constants.{meaning}
use Rattle.juniper_syntax.specs.InputView.{view_input}
use Rattle.juniper_conversions.proofs.list_conversions.write_items.Given as goal

abbrev pub invariant-loop-value : goal.invariant-loop-value
invariant-loop-value g l =
    map (λ x. meaning (view_input g.S.ScalarValue.shown x.item)) l.items.items ≡ map g.T.ToInputValue.input (take l.value-index l.values)
