use Rattle.std.proofs.Common.{◌≡◌, ◌<◌, ◌++◌, ◌∷◌, [], suc, map, refl, sym, ap, ◌∙◌, arith, rules}
use Rattle.graphql_spec.specs.Errors.{index}
use Rattle.graphql_spec.specs.Resolvers.{items}
use Rattle.std.specs.Vec.Iter.{into_iter_items}
use Rattle.graphql_spec.specs.Skeletons.{several}
use Rattle.juniper_conversions.specs.PathView.{path_place}
use Rattle.juniper_assemble.specs.Apart.{layers_of}
use Rattle.juniper_values.specs.ResolvedView.{trees_of, view_resolved}
use Rattle.juniper_values.proofs.Resolutions.{view-Null, view-Scalar, view-List, view-Node}
use Rattle.juniper_assemble.specs.SkeletonView.{skeletons_of, view_skeleton}
use Rattle.juniper_assemble.specs.SpotView.{view_nodes}
use Rattle.juniper_assemble.proofs.ByKind.{none_left}
use Rattle.juniper_assemble.proofs.Views.{skeleton-Several}
use Rattle.juniper_assemble.proofs.Parting.{below-more, placed-as, null-part, list-refused, list-apart, apart-turn, apart-falls, seen-as, skeletons-push}
use Rattle.juniper_assemble.proofs.Parting.{start-apart}
use Rattle.juniper_assemble.proofs.apart.+item_apart.Goals as goal

pub returns-in_ok-null-in-Null-clause-apart : goal.returns-in_ok-null-in-Null-clause-apart
returns-in_ok-null-in-Null-clause-apart g t c =
    let shown = g.S.ScalarValue.shown in
    placed-as _ _ _ _ _ _ _ _ _ _ (ap (λ l. path_place c.args.path.now.value ++ map index l) (sym c.deref.ensures.value))
    (seen-as _ _ _ _ _ _ _ _ _ _ (ap (view_resolved shown) c.in-Null.is ∙ view-Null shown)
    (null-part _ _ _ _ _ _ _ c.in_ok-null-in-Null.ensures))

pub returns-in_ok-part-in-Scalar-clause-apart : goal.returns-in_ok-part-in-Scalar-clause-apart
returns-in_ok-part-in-Scalar-clause-apart g t c =
    let shown = g.S.ScalarValue.shown in
    placed-as _ _ _ _ _ _ _ _ _ _ (ap (λ l. path_place c.args.path.now.value ++ map index l) (sym c.deref-in-Scalar.ensures.value))
    (seen-as _ _ _ _ _ _ _ _ _ _ (ap (view_resolved shown) c.in-Scalar.is ∙ view-Scalar shown _)
    (c.in_ok-part-in-Scalar.ensures (view_nodes c.args.nodes.now.items)))

pub returns-in_ok-part-in-Node-clause-apart : goal.returns-in_ok-part-in-Node-clause-apart
returns-in_ok-part-in-Node-clause-apart g t c =
    let shown = g.S.ScalarValue.shown in
    placed-as _ _ _ _ _ _ _ _ _ _ (ap (λ l. path_place c.args.path.now.value ++ map index l) (sym c.deref-in-Node.ensures.value))
    (seen-as _ _ _ _ _ _ _ _ _ _ (ap (view_resolved shown) c.in-Node.is ∙ view-Node shown _)
    (c.in_ok-part-in-Node.ensures))

pub returns-in_ok-unlisted-in-None-clause-apart : goal.returns-in_ok-unlisted-in-None-clause-apart
returns-in_ok-unlisted-in-None-clause-apart g t c =
    let shown = g.S.ScalarValue.shown in
    placed-as _ _ _ _ _ _ _ _ _ _ (ap (λ l. path_place c.args.path.now.value ++ map index l) (sym c.deref-in-None.ensures.value))
    (seen-as _ _ _ _ _ _ _ _ _ _ (ap (view_resolved shown) c.in-List.is ∙ view-List shown _)
    (list-refused _ _ _ _ _ _ _ _ (sym c.in-None.ensures) c.in_ok-unlisted-in-None.ensures))

pub loop-item-init : goal.loop-item-init
loop-item-init g t c = (
  start-apart _ _ _ _ _ _ _ _ c.in_ok-made-in-Some.ensures.len
      (ap (λ l. skeletons_of (map (view_skeleton g.S.ScalarValue.shown) l)) c.in_ok-made-in-Some.ensures.items),
  refl,
)

pub item_apart-requires : goal.item_apart-requires
item_apart-requires g t c κs within =
    let shown = g.S.ScalarValue.shown in
    let gives = ap (λ l. trees_of (map (view_resolved shown) l)) c.into_iter-item-iterator.ensures.into_iter_gives.0 in
    let less : layers_of (view_resolved shown c.in-Some-item.item) < layers_of (view_resolved shown c.args.resolved) =
    apart-falls _ _ _ _ _ _ _ _ _ _ _ _ _ _ c.loop-item.invariant.0 (ap (λ l. trees_of (map (view_resolved shown) l)) c.in-Some-item.ensures.steps.0)
    (ap (view_resolved shown) c.in-List.is ∙ (view-List shown _ ∙ ap items (sym gives))) in
    (omega (arith, c.decreases, less), search rules)

pub loop-item-preserved : goal.loop-item-preserved
loop-item-preserved g t c =
    let shown = g.S.ScalarValue.shown in
    let before = c.args.positions.now.items in
    let pushed : c.push.new.self.items ≡ before ++ c.loop-item.made.len ∷ [] = c.in_ok-push-in-Some.ensures.items
    ∙ (ap (λ l. l ++ c.len-in-loop-item.result ∷ []) c.loop-item.invariant.1 ∙ ap (λ n. before ++ n ∷ []) c.len-in-loop-item.ensures) in
    let step : c.push-in-loop-item.new.self.len ≡ suc c.loop-item.made.len = omega (arith, c.in_ok-push-in-Some-2.ensures.len) in (
      apart-turn _ _ _ _ _ _ _ _ _ _ _ _ _ _ _ _ _ _ _ c.loop-item.invariant.0
          (ap (λ l. trees_of (map (view_resolved shown) l)) c.in-Some-item.ensures.steps.0)
          step (below-more (path_place c.args.path.now.value) before c.push.new.self.items c.loop-item.made.len pushed)
          (skeletons-push shown c.loop-item.made.items c.push-in-loop-item.new.self.items _ c.in_ok-push-in-Some-2.ensures.items)
          c.in_ok-skeleton-in-Some.ensures.apart,
      c.drop_last.ensures before c.loop-item.made.len (c.in_ok-skeleton-in-Some.ensures.positions ∙ pushed),
    )

pub returns-in-None-item-clause-apart : goal.returns-in-None-item-clause-apart
returns-in-None-item-clause-apart g t c =
    let shown = g.S.ScalarValue.shown in
    let it = c.loop-item.item-iterator in
    let out = none_left (into_iter_items it) it.rest.len it.rest.ok.0 c.in-None-item.ensures.steps.0 in
    let gives = ap (λ l. trees_of (map (view_resolved shown) l)) c.into_iter-item-iterator.ensures.into_iter_gives.0 in
    seen-as _ _ _ _ _ _ _ _ _ _ (ap (view_resolved shown) c.in-List.is ∙ (view-List shown _ ∙ ap items (sym gives)))
    (list-apart _ _ _ _ _ _ _ _ _ _ _ _ _ c.in-Some.ensures c.loop-item.invariant.0 (ap (λ l. trees_of (map (view_resolved shown) l)) out)
    (skeleton-Several shown _ c.loop-item.made ∙ ap (λ b. several b (skeletons_of (map (view_skeleton shown) c.loop-item.made.items)))
    c.is_non_null.ensures))

pub returns-in-None-item-clause-positions : goal.returns-in-None-item-clause-positions
returns-in-None-item-clause-positions g t c = c.loop-item.invariant.1
