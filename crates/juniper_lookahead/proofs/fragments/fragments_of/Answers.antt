use Rattle.std.proofs.Common.{refl}
use Rattle.juniper_syntax.specs.DocumentView.{view_definition}
use Rattle.juniper_lookahead.specs.FragmentView.{fragment_at, fragment_in_order, fragments_in, view_lent_fragment}
use Rattle.juniper_lookahead.proofs.FragmentMaps.{all-put, empty-at, none-put, one-more-put}
use Rattle.juniper_lookahead.proofs.fragments.fragments_of.Goals as goal

pub loop-index-init : goal.loop-index-init
unfolding fragment_at fragment_in_order
loop-index-init g c =
    let shown = g.S.ScalarValue.shown in
    record {
      in_order = none-put (view_definition shown) c.args.document.now (fragment_in_order shown c.new-ordered.result)
          (empty-at (λ f. view_lent_fragment shown f.now) c.new-ordered.result.entries c.new-ordered.ensures.empty);
      lent = none-put (view_definition shown) c.args.document.now (fragment_at shown c.in_ok-lent.lent)
          (empty-at (λ f. view_lent_fragment shown f.now) c.in_ok-lent.lent.entries c.in_ok-lent.ensures.empty);
    }

pub loop-index-preserved : goal.loop-index-preserved
loop-index-preserved g c =
    let shown = g.S.ScalarValue.shown in
    let document = c.args.document.now in
    record {
      in_order = one-more-put (view_definition shown) document (fragment_in_order shown c.loop-index.ordered)
          (fragment_in_order shown c.put_fragment.new.ordered) c.loop-index.index c.index-document-document.result c.loop-index-test.true
          c.index-document-document.is c.loop-index.invariant.in_order c.in_ok-put_fragment.ensures.ordered;
      lent = one-more-put (view_definition shown) document (fragment_at shown c.loop-index.lent) (fragment_at shown c.put_fragment.new.lent)
          c.loop-index.index c.index-document-document.result c.loop-index-test.true c.index-document-document.is c.loop-index.invariant.lent
          c.in_ok-put_fragment.ensures.lent;
    }

pub returns-clause-is : goal.returns-clause-is
unfolding fragments_in
returns-clause-is g c = refl

pub returns-clause-made : goal.returns-clause-made
unfolding fragments_in
returns-clause-made g c =
    let shown = g.S.ScalarValue.shown in
    let document = c.args.document.now in
    record {
      in_order = all-put (view_definition shown) document (fragment_in_order shown c.loop-index.ordered) c.loop-index.index c.loop-index-test.false
          c.loop-index.invariant.in_order;
      named = all-put (view_definition shown) document (fragment_at shown c.loop-index.lent) c.loop-index.index c.loop-index-test.false
          c.loop-index.invariant.lent;
      counted = c.count_fragments-count.ensures;
    }
