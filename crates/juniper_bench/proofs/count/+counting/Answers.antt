use Rattle.juniper_bench.specs.Counts.{capped}
use Rattle.juniper_bench.proofs.Counting.{counts-leaf, counts-set, counts-spread, counts-inline, counts-next, counts-all}
use Rattle.std.proofs.Common.{refl}
use Rattle.juniper_bench.proofs.count.+counting.Goals as goal

pub count_selection-returns-in-Some : goal.count_selection-returns-in-Some
unfolding capped
count_selection-returns-in-Some g t c =
    counts-set g.S.ScalarValue.shown c.args.selection.now c.args.before _ c.in-Field.field c.in-Some.below c.deref.result.now _
    c.in-Field.is c.in-Some.is c.deref.ensures.value c.saturating_add.ensures c.count_selections.ensures

pub count_selection-returns-in-None : goal.count_selection-returns-in-None
unfolding capped
count_selection-returns-in-None g t c =
    counts-leaf g.S.ScalarValue.shown c.args.selection.now c.args.before _ c.in-Field.field c.in-Field.is c.in-None.is c.saturating_add-in-None.ensures

pub count_selection-returns-in-FragmentSpread : goal.count_selection-returns-in-FragmentSpread
count_selection-returns-in-FragmentSpread g t c =
    counts-spread g.S.ScalarValue.shown c.args.selection.now c.args.before _ c.in-FragmentSpread.field-0 c.in-FragmentSpread.is refl

pub count_selection-returns-in-InlineFragment : goal.count_selection-returns-in-InlineFragment
count_selection-returns-in-InlineFragment g t c =
    counts-inline g.S.ScalarValue.shown c.args.selection.now c.args.before _ c.in-InlineFragment.inline c.deref-in-InlineFragment.result.now
    c.in-InlineFragment.is c.deref-in-InlineFragment.ensures.value c.count_selections-in-InlineFragment.ensures

pub count_selections-returns : goal.count_selections-returns
count_selections-returns g t c = counts-all g.S.ScalarValue.shown c.args.selections.now c.args.before _ _ c.loop-selection-test.false c.loop-selection.invariant

pub count_selections-loop-selection-preserved : goal.count_selections-loop-selection-preserved
count_selections-loop-selection-preserved g t c =
    counts-next g.S.ScalarValue.shown c.args.selections.now c.args.before c.loop-selection.selection-index c.selection-item.result _ _
    c.loop-selection-test.true c.selection-item.is c.loop-selection.invariant c.count_selection-count.type_inv c.count_selection-count.ensures
