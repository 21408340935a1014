use Rattle.std.proofs.Common.{refl}
use Rattle.juniper_explain.specs.Words.{view_marked}
use Rattle.juniper_explain.proofs.Marking.{adds-all, adds-inline, adds-leaf, adds-next, adds-set, adds-spread}
use Rattle.juniper_explain.proofs.words.+marking.Goals as goal

pub mark_selection-returns-in_ok-mark_selections-in-Some : goal.mark_selection-returns-in_ok-mark_selections-in-Some
mark_selection-returns-in_ok-mark_selections-in-Some g t c =
    adds-set g.S.ScalarValue.shown c.args.selection.now (view_marked c.args.words.now) (view_marked c.mark_selections.new.words)
    c.in-Field.field c.in-Some.below c.deref.result.now c.in-Field.is c.in-Some.is c.deref.ensures.value c.in_ok-mark_selections-in-Some.ensures

pub mark_selection-returns-in-None : goal.mark_selection-returns-in-None
mark_selection-returns-in-None g t c =
    adds-leaf g.S.ScalarValue.shown c.args.selection.now (view_marked c.args.words.now) (view_marked c.args.words.now)
    c.in-Field.field c.in-Field.is c.in-None.is refl

pub mark_selection-returns-in_ok-mark_spread-in-FragmentSpread : goal.mark_selection-returns-in_ok-mark_spread-in-FragmentSpread
mark_selection-returns-in_ok-mark_spread-in-FragmentSpread g t c =
    adds-spread g.S.ScalarValue.shown c.args.selection.now (view_marked c.args.words.now) (view_marked c.mark_spread.new.words)
    c.in-FragmentSpread.spread c.in-FragmentSpread.is c.in_ok-mark_spread-in-FragmentSpread.ensures

pub mark_selection-returns-in_ok-mark_selections-in-InlineFragment : goal.mark_selection-returns-in_ok-mark_selections-in-InlineFragment
mark_selection-returns-in_ok-mark_selections-in-InlineFragment g t c =
    adds-inline g.S.ScalarValue.shown c.args.selection.now (view_marked c.args.words.now) (view_marked c.mark_selections-in-InlineFragment.new.words)
    c.in-InlineFragment.inline c.deref-in-InlineFragment.result.now (view_marked c.mark_condition.new.words)
    c.in-InlineFragment.is c.deref-in-InlineFragment.ensures.value c.in_ok-mark_condition-in-InlineFragment.ensures
    c.in_ok-mark_selections-in-InlineFragment.ensures

pub mark_selections-returns : goal.mark_selections-returns
mark_selections-returns g t c =
    adds-all g.S.ScalarValue.shown c.args.selections.now (view_marked c.args.words.now) c.loop-selection.selection-index
    (view_marked c.loop-selection.words) c.loop-selection-test.false c.loop-selection.invariant

pub mark_selections-loop-selection-preserved : goal.mark_selections-loop-selection-preserved
mark_selections-loop-selection-preserved g t c =
    adds-next g.S.ScalarValue.shown c.args.selections.now (view_marked c.args.words.now) c.loop-selection.selection-index c.selection-item.result
    (view_marked c.loop-selection.words) (view_marked c.mark_selection.new.words)
    c.loop-selection-test.true c.selection-item.is c.loop-selection.invariant c.in_ok-mark_selection.ensures
