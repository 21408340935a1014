use Rattle.std.proofs.Common.{◌≡◌, ◌++◌, [], map, ap, sym, ◌∙◌, append-nil}
use Rattle.std.proofs.lemmas.Result.{err_from_is_err_and}
use Rattle.std.specs.Vec.Iter.{into_iter_items}
use Rattle.graphql_spec.specs.Resolvers.{answered}
use Rattle.juniper_values.specs.Replies.{list_reply}
use Rattle.juniper_values.specs.ResolvedView.{view_resolved}
use Rattle.juniper_values.proofs.ListReplies.{none_left, answers_all, fails_at}
use Rattle.juniper_values.proofs.Resolutions.{view-List}
use Rattle.juniper_values.proofs.wrappers.VecIntoResolvable.into_resolvable.Goals as goal

pub returns-in_err-into_resolvable : goal.returns-in_err-into_resolvable
returns-in_err-into_resolvable g c =
    let p = err_from_is_err_and c.from_residual.result c.from_residual.ensures.1 in
    let shown = g.S.ScalarValue.shown in
    let resolves = g.T.IntoResolvable.resolves in
    let gives = ap (map resolves) c.into_iter-item-iterator.ensures.into_iter_gives.0 in
    rw (p.1, p.2) (fails_at shown (view_resolved shown) resolves (map resolves c.args.self.items) c.loop-item.items.items
    (into_iter_items c.loop-item.item-iterator) (into_iter_items c.next.new.self) c.in-Some.item c.in_err-into_resolvable.field-0.0
    (sym gives ∙ c.loop-item.invariant) c.in-Some.ensures.steps.0 c.in_err-into_resolvable.ensures)

pub returns : goal.returns
returns g c =
    let shown = g.S.ScalarValue.shown in
    let resolves = g.T.IntoResolvable.resolves in
    let it = c.loop-item.item-iterator in
    let gives = ap (map resolves) c.into_iter-item-iterator.ensures.into_iter_gives.0 in
    let ends : into_iter_items it ≡ [] = none_left (into_iter_items it) it.rest.len it.rest.ok.0 c.in-None.ensures.steps.0 in
    ap list_reply (sym gives ∙ c.loop-item.invariant ∙ ap (λ xs. map (λ r. answered (view_resolved shown r)) c.loop-item.items.items ++ map resolves xs) ends
    ∙ append-nil _)
    ∙ answers_all (view_resolved shown) c.loop-item.items.items ∙ sym (ap answered (view-List shown c.loop-item.items))
