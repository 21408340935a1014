use Rattle.std.proofs.Common.{refl, ap, subst, ◌∙◌}
use Rattle.std.specs.List.{list_any}
use Rattle.std.specs.Vec.Iter.{into_iter_items}
use Rattle.graphql_spec.specs.Laws.{In}
use Rattle.juniper_type_rules.proofs.LeavingOut.{alike-all, alike-left-out, none-left}
use Rattle.juniper_type_rules.specs.UsesView.{view_use, view_uses}
use Rattle.juniper_type_rules.proofs.once.uses_once.Goals as goal

pub loop-one-preserved : goal.loop-one-preserved
loop-one-preserved c =
    alike-left-out _ _ _ _ _ c.loop-one.invariant (ap view_uses c.in-Some.ensures.steps.0)
    (subst (λ l. In (view_use c.in-Some.one) (view_uses l)) c.deref.ensures.value (c.if-not-stands_at.ensures refl))

pub returns : goal.returns
returns c =
    let it = c.loop-one.one-iterator in
    let out = none-left (into_iter_items it) it.rest.len it.rest.ok.0 c.in-None.ensures.steps.0 in
    let gives = ap view_uses c.into_iter-one-iterator.ensures.into_iter_gives.0 in
    λ test. alike-all _ _ _ c.loop-one.invariant (ap view_uses out) test ∙ ap (list_any test) gives
