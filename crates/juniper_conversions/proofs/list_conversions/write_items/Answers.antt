use Rattle.std.proofs.Common.{◌∙◌, ap, map, take_all}
use Rattle.graphql_spec.specs.Constants.{meaning}
use Rattle.juniper_syntax.specs.InputView.{view_input}
use Rattle.juniper_conversions.specs.ListConversions.{constants_of}
use Rattle.juniper_conversions.proofs.Items.{written_next}
use Rattle.juniper_conversions.proofs.Shapes.{meanings-constants}
use Rattle.juniper_conversions.proofs.list_conversions.write_items.Goals as goal

pub returns : goal.returns
returns g c =
    rw (← take_all c.loop-value.value-index c.args.values.now c.loop-value-test.false)
    (meanings-constants g.S.ScalarValue.shown c.loop-value.items.items ∙ ap constants_of c.loop-value.invariant)

pub loop-value-preserved : goal.loop-value-preserved
loop-value-preserved g c =
    let view = view_input g.S.ScalarValue.shown in
    rw c.in_ok-push.ensures.items
    (written_next (λ x. meaning (view x.item)) g.T.ToInputValue.input c.loop-value.items.items c.args.values.now c.loop-value.value-index c.value-item.result
    c.value-item.is c.loop-value-test.true
    c.loop-value.invariant c.unlocated.result (ap (λ v. meaning (view v)) c.unlocated.ensures.item ∙ c.in_ok-to_input_value.ensures))

pub loop-value-init : goal.loop-value-init
loop-value-init g c = ap (map (λ x. meaning (view_input g.S.ScalarValue.shown x.item))) c.new-items.ensures.items
