-- What nodes hold that refer to others by their places.
use Rattle.std.specs.Prelude.{ℕ, zero, suc, List, [], ◌∷◌, ◌++◌, ◌≡◌, ◌<◌, Option, Some, length}
use Rattle.std.specs.List.{slice_get}
use Rattle.std.proofs.lemmas.Option.{slice_get_within}
use Rattle.std.proofs.Common.{arith, refl, sym, ap, ◌∙◌, inl, inr, subst}
use Rattle.graphql_spec.specs.Laws.{In}
use Rattle.juniper_merging.specs.MergingGraph.{FieldAt}
use Rattle.juniper_merging.specs.Nodes.{Alike, AreEntries, AreNodes, IsNode, Selects, flat, list_of}
use Rattle.juniper_merging.specs.Numbered.{AreEntriesAt, ArePlaced, ArePartsAt, IsChildAt, IsNodeAt, held_by}
use Rattle.juniper_merging.specs.Standing.{Both}
use Rattle.juniper_merging.specs.United.{IsUniting}
use Rattle.juniper_merging.specs.declared.nodes.Entry.{Entry}
use Rattle.juniper_merging.specs.declared.nodes.Node.{Node}
use Rattle.juniper_merging.specs.declared.uniting.Uniting.{Uniting}
use Rattle.juniper_merging.proofs.Looked.{none-some}
use Rattle.juniper_merging.proofs.Making.{both-places, in-place, place-in, there-at}
use Rattle.juniper_merging.proofs.Told.{some-same}

no-items : {A B : Type 0} (xs : List A) (ys : List B) → length ys ≡ length xs → xs ≡ [] → ys ≡ []
no-items xs [] e none = refl
no-items xs (y ∷ ys) e none = absurd (let l = e ∙ ap length none in omega (arith, l))

both-at : {A : Type 0} (xs : List A) (x y : A) (p q : ℕ) → slice_get xs p ≡ Some x → slice_get xs q ≡ Some y → (p ≡ q → ⊥) → Both x y xs
both-at [] x y p q e f apart = none-some e
both-at (z ∷ zs) x y zero zero e f apart = absurd (apart refl)
both-at (z ∷ zs) x y zero (suc q) e f apart = inl (sym (some-same e), place-in q y zs f)
both-at (z ∷ zs) x y (suc p) zero e f apart = inr (inl (sym (some-same f), place-in p x zs e))
both-at (z ∷ zs) x y (suc p) (suc q) e f apart = inr (inr (both-at zs x y p q e f (λ r. apart (ap suc r))))

module _ (H : ℕ → List ℕ) (numbers : List ℕ) where
  pub held-at : (p c : ℕ) → slice_get numbers p ≡ Some c → held_by H numbers p ≡ H c
  unfolding held_by list_of
  held-at p c at = ap (list_of H) at

  child-held : (o p : Option ℕ) → IsChildAt numbers o p → list_of (held_by H numbers) p ≡ list_of H o
  unfolding list_of
  child-held o p (inl r) = ap (list_of (held_by H numbers)) r.1 ∙ sym (ap (list_of H) r.0)
  child-held o p (inr r) = ap (list_of (held_by H numbers)) r.3 ∙ (held-at r.1 r.0 r.4 ∙ sym (ap (list_of H) r.2))

  flat-held : (ps qs : List ℕ) → ArePartsAt numbers ps qs → flat (held_by H numbers) qs ≡ flat H ps
  unfolding flat
  flat-held [] [] are = refl
  flat-held [] (a ∷ qs) are = absurd (let e = are.count in omega (arith, e))
  flat-held (b ∷ ps) [] are = absurd (let e = are.count in omega (arith, e))
  flat-held (b ∷ ps) (a ∷ qs) are =
      let r = are.each 0 a refl in
      λ k. (held-at a r.0 r.2 ∙ ap H (sym (some-same r.1))) k ++ flat-held ps qs (record {
        count = (let e = are.count in omega (arith, e));
        each = λ p x at. are.each (suc p) x at;
      }) k

  module _ (vs : List FieldAt) where
    entries-placed : (F : List ℕ) (es fs : List Entry) → AreEntriesAt numbers es fs → AreEntries vs H F es → AreEntries vs (held_by H numbers) F fs
    entries-placed F es fs at are = record {
      each = λ e m.
          let p = in-place e fs m in
          let r = at.each p.0 e p.1 in
          let is = are.each r.0 (place-in p.0 r.0 es r.1) in
          record {
            head = is.head;
            there = ap (slice_get vs) r.2.field ∙ is.there;
            inside = subst (λ i. In i F) (sym r.2.field) is.inside;
            lone = λ q. is.lone (sym r.2.many ∙ q);
            many = λ q. is.many (sym r.2.many ∙ q);
            child = subst (Selects vs F is.head) (sym (child-held r.0.child e.child r.2.child)) is.child;
          };
      covers = λ i v m e.
          let r = are.covers i v m e in
          let p = in-place r.0 es r.1 in
          let s = there-at fs p.0 (subst (λ n. p.0 < n) (sym at.count) (slice_get_within es p.0 r.0 p.1)) in
          let q = at.each p.0 s.0 s.1 in
          (s.0, place-in p.0 s.0 fs s.1, (r.2.0, ap (slice_get vs) (q.2.field ∙ ap (λ (x : Entry). x.field) (some-same (sym q.1 ∙ p.1))) ∙ r.2.1, r.2.2));
      apart = λ e f b h k eh fk s.
          let r = both-places e f fs b in
          let p = at.each r.0 e r.2 in
          let q = at.each r.1 f r.3 in
          are.apart p.0 q.0 (both-at es p.0 q.0 r.0 r.1 p.1 q.1 r.4) h k (ap (slice_get vs) (sym p.2.field) ∙ eh) (ap (slice_get vs) (sym q.2.field) ∙ fk) s;
    }

    node-placed : (o n : Node) (l : List ℕ) → IsNodeAt numbers o n → IsNode vs H o l → IsNode vs (held_by H numbers) n l
    node-placed o n l at (inl r) = inl (
      r.0,
      no-items o.parts.items n.parts.items at.parts.count r.1,
      r.2,
      entries-placed r.0 o.entries.items n.entries.items at.entries r.3,
    )
    node-placed o n l at (inr r) = inr (
      no-items o.entries.items n.entries.items at.entries.count r.0,
      subst (Alike l) (sym (flat-held o.parts.items n.parts.items at.parts)) r.1,
    )

    pub nodes-placed : (t : List (List ℕ)) (u : Uniting) (nodes : List Node) → IsUniting vs t H u → ArePlaced u.united.items numbers nodes →
        AreNodes vs (held_by H numbers) nodes
    nodes-placed t u nodes is are a n at =
        let r = are.each a n at in
        let made = is.made r.0 r.1 r.2 in
        subst (IsNode vs (held_by H numbers) n) (sym (held-at a r.1.number r.3)) (node-placed r.1.node n (H r.1.number) r.4 made.2)
