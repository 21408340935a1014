use Rattle.juniper_written.specs.WrittenView.{view_written}
use Rattle.juniper_written.proofs.Joining.{adds-leaf, adds-set, adds-spread, adds-inline, adds-next, adds-all}
use Rattle.juniper_written.proofs.written.+writing.Goals as goal

pub write_selection-returns-in_ok-write_selections-in-Some : goal.write_selection-returns-in_ok-write_selections-in-Some
write_selection-returns-in_ok-write_selections-in-Some g t c =
    let shown = g.S.ScalarValue.shown in
    adds-set shown c.args.selection.now (view_written shown c.args.written.now) (view_written shown c.write_selections.new.written)
    c.in-Field.field c.in-Some.below c.deref.result.now (view_written shown c.write_field.new.written)
    c.in-Field.is c.in-Some.is c.deref.ensures.value c.in_ok-write_field-in-Field.ensures c.in_ok-write_selections-in-Some.ensures

pub write_selection-returns-in-None : goal.write_selection-returns-in-None
write_selection-returns-in-None g t c =
    let shown = g.S.ScalarValue.shown in
    adds-leaf shown c.args.selection.now (view_written shown c.args.written.now) (view_written shown c.write_field.new.written)
    c.in-Field.field c.in-Field.is c.in-None.is c.in_ok-write_field-in-Field.ensures

pub write_selection-returns-in_ok-write_spread-in-FragmentSpread : goal.write_selection-returns-in_ok-write_spread-in-FragmentSpread
write_selection-returns-in_ok-write_spread-in-FragmentSpread g t c =
    let shown = g.S.ScalarValue.shown in
    adds-spread shown c.args.selection.now (view_written shown c.args.written.now) (view_written shown c.write_spread.new.written)
    c.in-FragmentSpread.spread c.in-FragmentSpread.is c.in_ok-write_spread-in-FragmentSpread.ensures

pub write_selection-returns-in_ok-write_selections-in-InlineFragment : goal.write_selection-returns-in_ok-write_selections-in-InlineFragment
write_selection-returns-in_ok-write_selections-in-InlineFragment g t c =
    let shown = g.S.ScalarValue.shown in
    adds-inline shown c.args.selection.now (view_written shown c.args.written.now) (view_written shown c.write_selections-in-InlineFragment.new.written)
    c.in-InlineFragment.inline c.deref-in-InlineFragment.result.now (view_written shown c.write_inline.new.written)
    c.in-InlineFragment.is c.deref-in-InlineFragment.ensures.value c.in_ok-write_inline-in-InlineFragment.ensures
    c.in_ok-write_selections-in-InlineFragment.ensures

pub write_selections-returns : goal.write_selections-returns
write_selections-returns g t c =
    let shown = g.S.ScalarValue.shown in
    adds-all shown c.args.selections.now (view_written shown c.args.written.now) c.loop-selection.selection-index
    (view_written shown c.loop-selection.written) c.loop-selection-test.false c.loop-selection.invariant

pub write_selections-loop-selection-preserved : goal.write_selections-loop-selection-preserved
write_selections-loop-selection-preserved g t c =
    let shown = g.S.ScalarValue.shown in
    adds-next shown c.args.selections.now (view_written shown c.args.written.now) c.loop-selection.selection-index c.selection-item.result
    (view_written shown c.loop-selection.written) (view_written shown c.write_selection.new.written)
    c.loop-selection-test.true c.selection-item.is c.loop-selection.invariant c.in_ok-write_selection.ensures
