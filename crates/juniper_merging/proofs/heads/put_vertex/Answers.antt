use Rattle.std.proofs.Common.{◌≡◌, ℕ, Some, ap, ap₂, cond, nat_eq, length, refl, subst, sym, ◌++◌, ◌∷◌, [], ◌∙◌}
use Rattle.std.specs.List.{slice_get}
use Rattle.graphql_spec.specs.Laws.{In}
use Rattle.juniper_merging.specs.Groups.{group_in}
use Rattle.juniper_merging.specs.MergingGraph.{view_vertex}
use Rattle.juniper_merging.specs.Questions.{seen}
use Rattle.juniper_merging.specs.Uniting.{group_number}
use Rattle.juniper_merging.proofs.Grouping.{put-back, put-same}
use Rattle.juniper_merging.proofs.OfHeads.{heads-added, heads-new}
use Rattle.juniper_merging.proofs.Vertices.{vertex-some}
use Rattle.juniper_merging.proofs.heads.put_vertex.Goals as goal

pub returns-in_ok-put_group-in-Some : goal.returns-in_ok-put_group-in-Some
unfolding view_vertex
returns-in_ok-put_group-in-Some c there t before are =
    let vs = c.args.vertices.now in
    let vertex = c.args.vertex.now in
    let number = c.group_number-number.result in
    let old = group_in c.args.groups.now in
    let mid = group_in c.take_group-group.new.groups in
    let now = group_in c.put_group.new.groups in
    let heads = c.args.heads.now.items in
    let p = c.in-Some.place in
    let r = (c.find_head.ensures t).0 p c.in-Some.is in
    let at = subst (λ l. slice_get l p ≡ Some r.0) c.deref.ensures.value r.1 in
    let add = c.in_ok-add_place-in-Some.ensures r.0 at in
    heads-added (seen t vs) t before heads old are c.args.field (view_vertex t vertex) (vertex-some t vs c.args.field vertex there) vertex.below refl
    p r.0 add.0 r.2.0 c.add_place.new.heads.items now at r.2.1 r.2.2 add.1 add.2 add.3 add.4
    (put-same old mid now number c.take_group-group.ensures.taken
    (λ k. c.in_ok-put_group-in-Some.ensures k ∙ ap (λ l. cond (nat_eq number k) l (mid k)) c.take_group-group.ensures.numbers))

pub returns-in_ok-put_group-in-None : goal.returns-in_ok-put_group-in-None
unfolding view_vertex
returns-in_ok-put_group-in-None c there t before are =
    let vs = c.args.vertices.now in
    let vertex = c.args.vertex.now in
    let number = c.group_number-number.result in
    let old = group_in c.args.groups.now in
    let mid = group_in c.take_group-group.new.groups in
    let now = group_in c.put_group-in-None.new.groups in
    let heads = c.args.heads.now.items in
    let hd = c.in_ok-new_head-in-None.field-0 in
    let made = c.in_ok-new_head-in-None.ensures in
    let none = (c.find_head.ensures t).1 c.in-None.is in
    heads-new (seen t vs) t before heads old are c.args.field (view_vertex t vertex) (vertex-some t vs c.args.field vertex there) vertex.below refl
    hd c.push-in-None.new.self.items now made.0 made.1 made.2 c.in_ok-push-in-None-2.ensures.items
    (λ p he e h eh s. none p (subst (In p) (sym (c.deref-2.ensures.value ∙ c.take_group-group.ensures.numbers))
    (subst (λ n. In p (old n)) (ap₂ group_number s.key s.call ∙ sym c.group_number-number.ensures) (are.grouped p he h e eh))) he
    (subst (λ l. slice_get l p ≡ Some he) (sym c.deref.ensures.value) e) h eh s)
    (subst (λ n. (k : ℕ) → now k ≡ cond (nat_eq n k) (old n ++ length heads ∷ []) (old k)) c.group_number-number.ensures
    (put-back old mid now number (old number ++ length heads ∷ []) c.take_group-group.ensures.taken
    (λ k. c.in_ok-put_group-in-None.ensures k ∙ ap (λ l. cond (nat_eq number k) l (mid k))
    (c.in_ok-push-in-None.ensures.items ∙ (λ u. c.take_group-group.ensures.numbers u ++ (c.len.ensures ∙ c.args.heads.now.ok.0) u ∷ [])))))
