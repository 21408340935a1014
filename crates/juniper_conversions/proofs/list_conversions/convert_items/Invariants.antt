use Rattle.std.proofs.Common.{map, take}
use Rattle.graphql_spec.specs.Constants.{meaning}
use Rattle.juniper_syntax.specs.InputView.{view_input}
use Rattle.juniper_conversions.specs.ListConversions.{EachGives}
use Rattle.juniper_conversions.proofs.list_conversions.convert_items.Given as goal

abbrev pub invariant-loop-item : goal.invariant-loop-item
invariant-loop-item g l =
    EachGives g.T.FromInputValue.gives (map (λ x. meaning (view_input g.S.ScalarValue.shown x.item)) (take l.item-index l.items)) l.converted.items
