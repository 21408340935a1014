use Rattle.std.proofs.Common.{refl, sym, ap, ◌∙◌}
use Rattle.juniper_syntax.specs.ValueView.{view_object}
use Rattle.std.specs.Vec.Iter.{into_iter_items}
use Rattle.juniper_walk.proofs.Counted.{row-kept, row-lost}
use Rattle.juniper_walk.proofs.Waiting.{not-both, put-same, some-same}
use Rattle.juniper_walk.proofs.rows.fill_row.Goals as goal

pub returns-then-not-rises-clause-filled : goal.returns-then-not-rises-clause-filled
returns-then-not-rises-clause-filled g c = λ o stands.
    let shown = g.S.ScalarValue.shown in
    let same = some-same c.in-Some.entries o (sym c.in-Some.is ∙ (c.take.ensures.value ∙ stands)) in
    record {
      made = c.add_value.new.entries;
      rises = c.in_ok-rises.rises;
      put_in = put-same _ _ _ _ _ _ _ _ _ _ _ (ap (view_object shown) same) c.in_ok-rises.ensures.put_in;
      left_over = c.in_ok-rises.ensures.left;
      kept = λ e. refl;
      lost = λ e. not-both c.in_ok-rises.rises c.if-not-rises.true e;
    }

pub returns-else-not-rises-clause-filled : goal.returns-else-not-rises-clause-filled
returns-else-not-rises-clause-filled g c = λ o stands.
    let shown = g.S.ScalarValue.shown in
    let same = some-same c.in-Some.entries o (sym c.in-Some.is ∙ (c.take.ensures.value ∙ stands)) in
    record {
      made = c.add_value.new.entries;
      rises = c.in_ok-rises.rises;
      put_in = put-same _ _ _ _ _ _ _ _ _ _ _ (ap (view_object shown) same) c.in_ok-rises.ensures.put_in;
      left_over = c.in_ok-rises.ensures.left;
      kept = λ e. not-both c.in_ok-rises.rises e c.if-not-rises.false;
      lost = λ e. c.take.ensures.after;
    }

pub returns-then-not-rises-clause-fields : goal.returns-then-not-rises-clause-fields
returns-then-not-rises-clause-fields g c =
    row-kept g.S.ScalarValue.shown _ _ _ (into_iter_items c.args.objects.now) _ c.in-Some.entries c.add_value.new.entries c.args.row.now.object _
    (sym c.take.ensures.value ∙ c.in-Some.is) refl (c.in_ok-rises.ensures.put_in.puts c.if-not-rises.true) c.in_ok-rises.ensures.left

pub returns-else-not-rises-clause-fields : goal.returns-else-not-rises-clause-fields
returns-else-not-rises-clause-fields g c =
    row-lost g.S.ScalarValue.shown _ (into_iter_items c.args.objects.now) _ c.args.row.now.object _ c.take.ensures.after c.in_ok-rises.ensures.left
