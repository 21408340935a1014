use Rattle.std.proofs.Common.{◌-◌, ◌^◌, ◌<◌, ◌≤◌, length, arith}
use Rattle.graphql_spec.specs.Documents.{fragments}
use Rattle.juniper_syntax.specs.DocumentView.{view_fragment}
use Rattle.juniper_written.specs.Kept.{kept_at}
use Rattle.juniper_written.proofs.Turns.{to-first, to-next, to-all}
use Rattle.juniper_written.proofs.counting.count_in_order.Goals as goal

pub loop-index-init : goal.loop-index-init
loop-index-init g c = λ m d are order none.
    to-first m (2 ^ 64 - 1) (fragments d) (λ f. view_fragment g.S.ScalarValue.shown f.now) c.args.order.now.items (kept_at m c.args.kept.now) none order

pub loop-index-preserved : goal.loop-index-preserved
loop-index-preserved g c = λ m d are order none.
    let below : c.loop-index.index < length c.args.order.now.items = omega (arith, c.loop-index-test.true, c.len-index-end.ensures, c.args.order.now.ok.0) in
    to-next m (2 ^ 64 - 1) (fragments d) (λ f. view_fragment g.S.ScalarValue.shown f.now) c.args.order.now.items (kept_at m c.loop-index.kept)
    (kept_at m c.count_fragment.new.kept) c.loop-index.index c.index-fragment.result.now below c.index-fragment.ensures
    (c.in_ok-count_fragment.ensures m d are) (c.loop-index.invariant m d are order none)

pub returns : goal.returns
returns g c = λ m d are order none.
    let past : length c.args.order.now.items ≤ c.loop-index.index = omega (arith, c.loop-index-test.false, c.len-index-end.ensures, c.args.order.now.ok.0) in
    to-all m (2 ^ 64 - 1) (fragments d) (λ f. view_fragment g.S.ScalarValue.shown f.now) c.args.order.now.items (kept_at m c.loop-index.kept)
    c.loop-index.index past order (c.loop-index.invariant m d are order none)
