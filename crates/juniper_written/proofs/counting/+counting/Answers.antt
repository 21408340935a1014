use Rattle.std.specs.Prelude.{◌-◌, ◌^◌}
use Rattle.graphql_spec.specs.Documents.{fragments}
use Rattle.juniper_written.specs.Kept.{kept_at, weight_at}
use Rattle.juniper_written.specs.Measures.{number}
use Rattle.juniper_written.proofs.Adding.{adds-leaf, adds-set, adds-spread, adds-inline, so-far-first, so-far-next, so-far-all}
use Rattle.juniper_written.proofs.counting.+counting.Goals as goal

pub counts_at-returns-in-Some : goal.counts_at-returns-in-Some
counts_at-returns-in-Some g t c = λ m d are.
    let shown = g.S.ScalarValue.shown in
    let at = weight_at (2 ^ 64 - 1) (fragments d) (kept_at m c.args.kept.now) in
    adds-set shown m (2 ^ 64 - 1) at c.args.selection.now (number m c.of_field.result) c.in-Field.field c.in-Some.below c.deref.result.now
    (number m c.counts_of.result) c.in-Field.is c.in-Some.is c.deref.ensures.value (c.counts_of.ensures m d are) (c.of_field.ensures m)

pub counts_at-returns-in-None : goal.counts_at-returns-in-None
counts_at-returns-in-None g t c = λ m d are.
    let at = weight_at (2 ^ 64 - 1) (fragments d) (kept_at m c.args.kept.now) in
    adds-leaf g.S.ScalarValue.shown m (2 ^ 64 - 1) at c.args.selection.now (number m c.of_field-in-None.result) c.in-Field.field (number m c.none.result)
    c.in-Field.is c.in-None.is (c.none.ensures m) (c.of_field-in-None.ensures m)

pub counts_at-returns-in-FragmentSpread : goal.counts_at-returns-in-FragmentSpread
counts_at-returns-in-FragmentSpread g t c = λ m d are.
    let at = weight_at (2 ^ 64 - 1) (fragments d) (kept_at m c.args.kept.now) in
    adds-spread g.S.ScalarValue.shown m (2 ^ 64 - 1) at c.args.selection.now (number m c.counts_behind.result) c.in-FragmentSpread.spread
    c.in-FragmentSpread.is (c.counts_behind.ensures m d are)

pub counts_at-returns-in-InlineFragment : goal.counts_at-returns-in-InlineFragment
counts_at-returns-in-InlineFragment g t c = λ m d are.
    let at = weight_at (2 ^ 64 - 1) (fragments d) (kept_at m c.args.kept.now) in
    adds-inline g.S.ScalarValue.shown m (2 ^ 64 - 1) at c.args.selection.now (number m c.of_fragment.result) c.in-InlineFragment.inline
    c.deref-in-InlineFragment.result.now (number m c.counts_of-in-InlineFragment.result) c.in-InlineFragment.is
    c.deref-in-InlineFragment.ensures.value (c.counts_of-in-InlineFragment.ensures m d are) (c.of_fragment.ensures m)

pub counts_of-loop-selection-init : goal.counts_of-loop-selection-init
counts_of-loop-selection-init g t c = λ m d are.
    so-far-first g.S.ScalarValue.shown m (2 ^ 64 - 1) (weight_at (2 ^ 64 - 1) (fragments d) (kept_at m c.args.kept.now)) c.args.selections.now
    (number m c.none-counts.result) (c.none-counts.ensures m)

pub counts_of-loop-selection-preserved : goal.counts_of-loop-selection-preserved
counts_of-loop-selection-preserved g t c = λ m d are.
    so-far-next g.S.ScalarValue.shown m (2 ^ 64 - 1) (weight_at (2 ^ 64 - 1) (fragments d) (kept_at m c.args.kept.now)) c.args.selections.now
    c.loop-selection.selection-index c.selection-item.result (number m c.loop-selection.counts) (number m c.counts_at.result) (number m c.join-counts.result)
    c.loop-selection-test.true c.selection-item.is (c.loop-selection.invariant m d are) (c.counts_at.ensures m d are) (c.join-counts.ensures m)

pub counts_of-returns : goal.counts_of-returns
counts_of-returns g t c = λ m d are.
    so-far-all g.S.ScalarValue.shown m (2 ^ 64 - 1) (weight_at (2 ^ 64 - 1) (fragments d) (kept_at m c.args.kept.now)) c.args.selections.now
    c.loop-selection.selection-index (number m c.loop-selection.counts) c.loop-selection-test.false (c.loop-selection.invariant m d are)
