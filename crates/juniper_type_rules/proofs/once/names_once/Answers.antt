use Rattle.std.proofs.Common.{◌≡◌, ◌++◌, ◌∷◌, [], ap, subst, sym, ◌∙◌}
use Rattle.std.specs.List.{list_any}
use Rattle.graphql_spec.specs.Laws.{In}
use Rattle.std.specs.Vec.Iter.{into_iter_items}
use Rattle.juniper_written.specs.WrittenView.{has_name, view_names}
use Rattle.juniper_type_rules.proofs.LeavingOut.{alike-all, alike-kept, alike-left-out, none-left, not-new, seen-before, seen-kept, seen-push}
use Rattle.juniper_type_rules.proofs.once.names_once.Goals as goal

pub loop-name-preserved : goal.loop-name-preserved
loop-name-preserved c =
    let known : has_name c.loop-name.seen c.in-Some.name.now ≡ _ = not-new _ _ c.in_ok-insert.ensures.found c.if-branch.false in
    let i = c.loop-name.invariant in (
      alike-left-out _ _ _ _ _ i.0 (ap view_names c.in-Some.ensures.steps.0) (i.1 c.in-Some.name.now known),
      seen-before _ _ _ _ c.in_ok-insert.ensures.added i.1 known,
    )

pub loop-name-preserved-in-Continue-branch-2 : goal.loop-name-preserved-in-Continue-branch-2
loop-name-preserved-in-Continue-branch-2 c =
    let i = c.loop-name.invariant in
    let kept = c.loop-name.kept.items in
    let name = c.in-Some.name.now in
    let more : view_names c.push.new.self.items ≡ view_names kept ++ name ∷ [] = seen-push (λ n. n.now) _ _ _ c.in_ok-push.ensures.items in (
      alike-kept _ _ _ _ _ _ i.0 (ap view_names c.in-Some.ensures.steps.0) more,
      λ n is. subst (In n) (sym more) (seen-kept _ _ name (view_names kept) c.in_ok-insert.ensures.added i.1 n is),
    )

pub returns : goal.returns
returns c =
    let it = c.loop-name.name-iterator in
    let out = none-left (into_iter_items it) it.rest.len it.rest.ok.0 c.in-None.ensures.steps.0 in
    let gives = ap view_names c.into_iter-name-iterator.ensures.into_iter_gives.0 in
    λ test. alike-all _ _ _ c.loop-name.invariant.0 (ap view_names out) test ∙ ap (list_any test) gives
