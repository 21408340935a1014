use Rattle.std.proofs.Common.{map, sym, ap, ◌∙◌}
use Rattle.std.specs.Vec.Iter.{into_iter_items}
use Rattle.graphql_spec.specs.Skeletons.{several}
use Rattle.juniper_syntax.specs.ValueView.{view_values}
use Rattle.juniper_syntax.proofs.Values.{view-Null, view-Scalar}
use Rattle.juniper_assemble.specs.SkeletonView.{skeletons_of, view_skeleton}
use Rattle.juniper_assemble.proofs.ByKind.{none_left, values-push}
use Rattle.juniper_assemble.proofs.Views.{skeleton-Absent, skeleton-Filled, skeleton-Several, skeleton-Hole}
use Rattle.juniper_assemble.proofs.Filled.{filled-absent, filled-scalar, filled-hole, filled-none, filling-turn, several-filled, start-filling}
use Rattle.juniper_walk.specs.Rows.{values_of}
use Rattle.juniper_walk.proofs.Holes.{absent-taken, hole-past, hole-taken, item-taken, list-taken, scalar-taken, start-taking}
use Rattle.juniper_walk.proofs.filling.+fill_walked.Goals as goal

pub returns-in-Absent : goal.returns-in-Absent
returns-in-Absent g t c =
    let shown = g.S.ScalarValue.shown in
    let is = ap (view_skeleton shown) c.in-Absent.is ∙ skeleton-Absent shown in
    record { value = filled-absent _ _ _ is (view-Null shown); taken = absent-taken shown _ _ _ is }

pub returns-in-Filled : goal.returns-in-Filled
returns-in-Filled g t c =
    let shown = g.S.ScalarValue.shown in
    let is = ap (view_skeleton shown) c.in-Filled.is ∙ skeleton-Filled shown _ in
    record { value = filled-scalar _ _ _ _ is (view-Scalar shown _); taken = scalar-taken shown _ _ _ _ is }

pub loop-item-init : goal.loop-item-init
loop-item-init g t c =
    let shown = g.S.ScalarValue.shown in
    record { filling = start-filling _ _ _ (ap (view_values shown) c.in_ok-made-in-Several.ensures.items); taken = start-taking shown _ _ _ }

pub loop-item-preserved : goal.loop-item-preserved
loop-item-preserved g t c =
    let shown = g.S.ScalarValue.shown in
    let next = ap (λ l. skeletons_of (map (view_skeleton shown) l)) c.in-Some.ensures.steps.0 in
    record {
      filling = filling-turn _ _ _ _ _ _ _ _ _ c.loop-item.invariant.filling next
          (values-push shown c.loop-item.made.items c.push.new.self.items c.in_ok-value-in-Several.value c.in_ok-push-in-Several.ensures.items)
          c.in_ok-value-in-Several.ensures.value;
      taken = item-taken shown _ _ _ _ _ _ _ _ _ _ next c.loop-item.invariant.taken c.in_ok-value-in-Several.ensures.taken;
    }

pub returns-in-None : goal.returns-in-None
returns-in-None g t c =
    let shown = g.S.ScalarValue.shown in
    let it = c.loop-item.item-iterator in
    let out = ap (λ l. skeletons_of (map (view_skeleton shown) l)) (none_left (into_iter_items it) it.rest.len it.rest.ok.0 c.in-None.ensures.steps.0) in
    let gives = ap (λ l. skeletons_of (map (view_skeleton shown) l)) c.into_iter-item-iterator.ensures.into_iter_gives.0 in
    let is = ap (view_skeleton shown) c.in-Several.is
    ∙ (skeleton-Several shown _ _ ∙ ap (λ s. several c.in-Several.is_non_null s) (sym gives)) in
    record {
      value = several-filled c.in-Several.is_non_null _ _ _ _ _ _ _ is c.loop-item.invariant.filling out c.whole.ensures;
      taken = list-taken shown _ c.in-Several.is_non_null _ _ _ _ _ _ is out c.loop-item.invariant.taken;
    }

pub returns-in_ok-append-in-Some-next : goal.returns-in_ok-append-in-Some-next
returns-in_ok-append-in-Some-next g t c =
    let shown = g.S.ScalarValue.shown in
    let is = ap (view_skeleton shown) c.in-Hole.is ∙ skeleton-Hole shown in
    record {
      value = filled-hole _ _ _ _ is (ap (values_of shown) c.in-Some-next.ensures.cases.0);
      taken = hole-taken shown _ _ _ _ _ _ is c.in-Some-next.ensures.cases.0 c.in_ok-append-in-Some-next.ensures.items;
    }

pub returns-in-None-next : goal.returns-in-None-next
returns-in-None-next g t c =
    let shown = g.S.ScalarValue.shown in
    let before = c.args.objects.now in
    let after = c.next-in-Hole.new.self in
    let none = none_left (into_iter_items before) before.rest.len before.rest.ok.0 c.in-None-next.ensures.cases.0 in
    let left = none_left (into_iter_items after) after.rest.len after.rest.ok.0 c.in-None-next.ensures.cases.1 in
    let is = ap (view_skeleton shown) c.in-Hole.is ∙ skeleton-Hole shown in
    record {
      value = filled-none _ _ _ _ is (ap (values_of shown) none) (ap (values_of shown) left) (view-Null shown);
      taken = hole-past shown _ _ _ _ is none left;
    }
