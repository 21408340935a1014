use Rattle.std.proofs.Common.{◌<◌, map, refl, sym, ap, ◌∙◌, arith, rules}
use Rattle.graphql_spec.specs.Resolvers.{items}
use Rattle.graphql_spec.specs.SeenNodes.{map_tree}
use Rattle.std.specs.Vec.Iter.{into_iter_items}
use Rattle.juniper_intro.specs.HandleView.{of_user}
use Rattle.juniper_intro.specs.Rooting.{layers_of}
use Rattle.juniper_intro.proofs.Collected.{seen-more}
use Rattle.juniper_intro.proofs.Rooting.{none_left, seen-all, seen-falls, seen-turn}
use Rattle.juniper_values.specs.ResolvedView.{trees_of, view_resolved}
use Rattle.juniper_values.proofs.Resolutions.{view-Null, view-Scalar, view-List, view-Node}
use Rattle.juniper_intro.proofs.rooted.+rooted.Goals as goal

pub returns-in-Null : goal.returns-in-Null
unfolding map_tree
returns-in-Null g t c = let shown = g.S.ScalarValue.shown in view-Null shown
    ∙ sym (ap (λ a. map_tree of_user (view_resolved shown a)) c.in-Null.is ∙ ap (map_tree of_user) (view-Null shown))

pub returns-in-Scalar : goal.returns-in-Scalar
unfolding map_tree
returns-in-Scalar g t c = let shown = g.S.ScalarValue.shown in view-Scalar shown _
    ∙ sym (ap (λ a. map_tree of_user (view_resolved shown a)) c.in-Scalar.is ∙ ap (map_tree of_user) (view-Scalar shown _))

pub returns-in-Node : goal.returns-in-Node
unfolding map_tree
returns-in-Node g t c = let shown = g.S.ScalarValue.shown in view-Node shown _
    ∙ sym (ap (λ a. map_tree of_user (view_resolved shown a)) c.in-Node.is ∙ ap (map_tree of_user) (view-Node shown _))

pub rooted-requires : goal.rooted-requires
rooted-requires g t c κs within =
    let shown = g.S.ScalarValue.shown in
    let gives = ap (λ l. trees_of (map (view_resolved shown) l)) c.into_iter-item-iterator.ensures.into_iter_gives.0 in
    let less : layers_of (view_resolved shown c.in-Some.item) < layers_of (view_resolved shown c.args.answer) =
    seen-falls of_user _ _ _ _ _ _ c.loop-item.invariant (ap (map (view_resolved shown)) c.in-Some.ensures.steps.0)
    (ap (view_resolved shown) c.in-List.is ∙ (view-List shown _ ∙ ap items (sym gives))) in
    (omega (arith, c.decreases, less), search rules)

pub loop-item-preserved : goal.loop-item-preserved
loop-item-preserved g t c =
    let shown = g.S.ScalarValue.shown in
    seen-turn of_user _ _ _ _ _ _ _ c.loop-item.invariant (ap (map (view_resolved shown)) c.in-Some.ensures.steps.0)
    (seen-more (view_resolved shown) _ _ _ _ _ c.in_ok-push-in-List.ensures.items refl refl) c.in_ok-seen-in-List.ensures

pub returns-in-None : goal.returns-in-None
returns-in-None g t c =
    let shown = g.S.ScalarValue.shown in
    let it = c.loop-item.item-iterator in
    let out = none_left (into_iter_items it) it.rest.len it.rest.ok.0 c.in-None.ensures.steps.0 in
    let gives = ap (λ l. trees_of (map (view_resolved shown) l)) c.into_iter-item-iterator.ensures.into_iter_gives.0 in
    view-List shown c.loop-item.made ∙ (seen-all of_user _ _ _ c.loop-item.invariant (ap (map (view_resolved shown)) out)
    ∙ sym (ap (λ a. map_tree of_user (view_resolved shown a)) c.in-List.is ∙ ap (map_tree of_user) (view-List shown _ ∙ ap items (sym gives))))
