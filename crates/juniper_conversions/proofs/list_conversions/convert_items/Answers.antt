use Rattle.graphql_spec.specs.Constants.{meaning}
use Rattle.juniper_syntax.specs.InputView.{view_input}
use Rattle.juniper_conversions.proofs.Items.{each_next, first_fails_at}
use Rattle.juniper_conversions.proofs.list_conversions.convert_items.Goals as goal

pub returns-in-Err : goal.returns-in-Err
returns-in-Err g c =
    first_fails_at g.T.FromInputValue.gives (λ x. meaning (view_input g.S.ScalarValue.shown x.item)) c.args.items.now c.loop-item.item-index
    c.item-item.result c.item-item.is c.loop-item-test.true c.loop-item.converted.items c.loop-item.invariant c.in-Err.error
    (rw c.in-Err.is at c.in_ok-value.ensures)

pub loop-item-preserved : goal.loop-item-preserved
loop-item-preserved g c =
    rw c.in_ok-push-in-Ok.ensures.items
    (each_next g.T.FromInputValue.gives (λ x. meaning (view_input g.S.ScalarValue.shown x.item)) c.args.items.now c.loop-item.item-index
    c.item-item.result c.item-item.is c.loop-item-test.true c.loop-item.converted.items c.loop-item.invariant c.in-Ok.value
    (rw c.in-Ok.is at c.in_ok-value.ensures))
