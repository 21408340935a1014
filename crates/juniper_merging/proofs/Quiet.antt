-- Fields that are like the first of their response keys, at any depth, merge (5.3.2).
use Rattle.std.specs.Prelude.{ℕ, zero, suc, Bool, true, false, ◌&&◌, List, [], ◌∷◌, ◌++◌, ◌≡◌, Option, Some, None, length, option_map, nat_eq}
use Rattle.std.specs.List.{slice_get}
use Rattle.std.proofs.lemmas.Option.{slice_get-map}
use Rattle.std.proofs.Common.{refl, sym, ap, ◌∙◌, inl, inr, subst}
use Rattle.graphql_spec.specs.Laws.{In}
use Rattle.graphql_spec.proofs.Grouping.{in_append}
use Rattle.juniper_merging.specs.Conflicts.{AreQuiet, IsQuiet, IsQuietEntry, IsQuietNumber}
use Rattle.juniper_merging.specs.MergingGraph.{FieldAt, agree, can_meet, each_pair_at, merge_at, view_vertex}
use Rattle.juniper_merging.specs.Nodes.{ArePaired, HasHead, IsEntry, IsNode, SameHead, SaysBoth, flat, list_of}
use Rattle.juniper_merging.specs.Questions.{seen}
use Rattle.juniper_merging.specs.declared.clash.Clash.TheVariants as clash
use Rattle.juniper_merging.specs.declared.graph.Vertex.{Vertex}
use Rattle.juniper_merging.specs.declared.nodes.Entry.{Entry}
use Rattle.juniper_merging.specs.declared.nodes.Node.{Node}
use Rattle.juniper_merging.proofs.Joint.{Test, agreed, both-in, nothing-paired, nothing-says-both, numbers-pass, pairs-good}
use Rattle.juniper_merging.proofs.Looked.{none-some}
use Rattle.juniper_merging.proofs.Numbers.{same-number}
use Rattle.juniper_merging.proofs.Tables.{in-first, is-there, one-of}
use Rattle.juniper_merging.proofs.Telling.{found-alone, found-pair}
use Rattle.juniper_merging.proofs.Told.{some-same}
use Rattle.juniper_merging.proofs.Vertices.{vertex-some}

both : (a b : Bool) → a ≡ true → b ≡ true → (a && b) ≡ true
both a b e f = rw (e, f) refl

module _ (vs : List FieldAt) (H : ℕ → List ℕ) (loud : List Bool) (are : AreQuiet vs H loud) where
  abbrev Quiet : ℕ → Type 0
  Quiet i = IsQuietNumber vs H loud i

  below-quiet : (x : FieldAt) → IsQuiet vs H loud x → (a : ℕ) → In a x.below → Quiet a
  below-quiet x q a m = let r = q.below a m in are r.0 a r.1 r.2

  quiet-agree : (m : Bool) (x y : FieldAt) → IsQuiet vs H loud x → IsQuiet vs H loud y → nat_eq x.key y.key ≡ true → agree m x y ≡ true
  quiet-agree m x y p q same =
      let one : p.first ≡ q.first = some-same (sym p.there ∙ (ap (slice_get vs) (same-number x.key y.key same) ∙ q.there)) in
      agreed m x y (p.shape ∙ (ap (λ (v : FieldAt). v.shape) one ∙ sym q.shape)) (p.call ∙ (ap (λ (v : FieldAt). v.call) one ∙ sym q.call))

  -- the quiet lemma: two of them merge to any depth, if they have one response key
  pub quiet-tested : (n : ℕ) (m : Bool) (i j : ℕ) → Quiet i → Quiet j → Test vs m n i j ≡ true
  quiet-tested zero m i j p q =
      numbers-pass vs m zero i j (λ x y e f same. found-alone vs m i j x y e f ∙ quiet-agree m x y (p x e) (q y f) same)
  quiet-tested (suc n) m i j p q = numbers-pass vs m (suc n) i j (λ x y e f same.
      let k = m && can_meet x y in
      let inside : (a : ℕ) → In a (x.below ++ y.below) → Quiet a = λ a h. elim (in_append a x.below y.below h) [
        | inl l ↦ below-quiet x (p x e) a l
        | inr l ↦ below-quiet y (q y f) a l
      ] in
      found-pair vs n m i j x y e f ∙ both (agree m x y) (each_pair_at vs (merge_at vs n k) (x.below ++ y.below)) (quiet-agree m x y (p x e) (q y f) same)
      (pairs-good vs k n (x.below ++ y.below) (λ a b h. let r = both-in a b (x.below ++ y.below) h in quiet-tested n k a b (inside a r.0) (inside b r.1))))

  -- so do the fields of nodes that are not loud
  pub quiet-between : (a b : ℕ) → slice_get loud a ≡ Some false → slice_get loud b ≡ Some false → SaysBoth vs (H a) (H b) clash.Nothing
  quiet-between a b e f = nothing-says-both vs (H a) (H b) (λ m n i j p q. quiet-tested n m i j (are a i e p) (are b j f q))

  -- and those of two entries
  pub quiet-paired : (F G : List ℕ) (h k : FieldAt) → ((i : ℕ) → In i F → HasHead vs h i → Quiet i) → ((j : ℕ) → In j G → HasHead vs k j → Quiet j) →
      ArePaired vs F G h k clash.Nothing
  quiet-paired F G h k first second = nothing-paired vs F G h k (λ m n i j p a q b. quiet-tested n m i j (first i p a) (second j q b))

-- ## Entries and nodes that are not loud

module _ (t : List (List ℕ)) (vertices : List Vertex) (H : ℕ → List ℕ) (loud : List Bool) where
  abbrev vs : List FieldAt
  vs = seen t vertices

  -- the vertex that a field is seen of
  vertex-at : (i : ℕ) (h : FieldAt) → slice_get vs i ≡ Some h → (v : Vertex) × (slice_get vertices i ≡ Some v) × (view_vertex t v ≡ h)
  vertex-at i h e = elim (is-there (slice_get vertices i)) [
    | inl none ↦ none-some (sym (ap (option_map (view_vertex t)) none) ∙ (sym (slice_get-map (view_vertex t) vertices i) ∙ e))
    | inr r ↦ (r.0, r.1, some-same (sym (vertex-some t vertices i r.0 r.1) ∙ e))
  ]

  pub entry-quiet : (F : List ℕ) (e : Entry) → IsQuietEntry vertices loud e → (own : IsEntry vs H F e) → (i : ℕ) → In i F → HasHead vs own.head i →
      IsQuietNumber vs H loud i
  unfolding view_vertex list_of
  entry-quiet F e quiet own i m a v f =
      let r = vertex-at e.field own.head own.there in
      let q = quiet r.0 r.1 in
      let like = q.0 in
      let same : a.field ≡ v = some-same (sym a.there ∙ f) in
      subst (IsQuiet vs H loud) same (record {
        first = view_vertex t like.0;
        there = subst (λ k. slice_get vs k ≡ Some (view_vertex t like.0)) (ap (λ (u : FieldAt). u.key) r.2 ∙ a.same.key)
            (vertex-some t vertices r.0.key like.0 like.1);
        shape = sym a.same.shape ∙ (sym (ap (λ (u : FieldAt). u.shape) r.2) ∙ like.2);
        call = sym a.same.call ∙ (sym (ap (λ (u : FieldAt). u.call) r.2) ∙ like.3);
        below = λ x n. child e.child q.1 x (own.child.one_back i m a x n);
      })
    where
      child : (o : Option ℕ) → ((d : ℕ) → o ≡ Some d → slice_get loud d ≡ Some false) → (x : ℕ) → In x (list_of H o) →
          (d : ℕ) × (slice_get loud d ≡ Some false) × In x (H d)
      child None f x n = absurd n
      child (Some d) f x n = (d, f d refl, n)

  quiet-still : (x : Bool) (v : FieldAt) → IsQuiet vs H loud v → IsQuiet vs H (loud ++ x ∷ []) v
  quiet-still x v is = record {
    first = is.first;
    there = is.there;
    shape = is.shape;
    call = is.call;
    below = λ y m. let r = is.below y m in (r.0, in-first loud (x ∷ []) r.0 false r.1, r.2);
  }

  in-flat : (i : ℕ) (ps : List ℕ) → In i (flat H ps) → (p : ℕ) × In p ps × In i (H p)
  unfolding flat
  in-flat i [] m = absurd m
  in-flat i (p ∷ ps) m = elim (in_append i (H p) (flat H ps) m) [
    | inl a ↦ (p, inl refl, a)
    | inr a ↦ (let r = in-flat i ps a in (r.0, inr r.1, r.2))
  ]

  -- one node more
  pub one-quiet : (more : List Bool) (x : Bool) (n : Node) → IsNode vs H n (H (length loud)) → more ≡ loud ++ x ∷ [] →
      (x ≡ false → ((e : Entry) → In e n.entries.items → IsQuietEntry vertices loud e) × ((p : ℕ) → In p n.parts.items → slice_get loud p ≡ Some false)) →
      AreQuiet vs H loud → AreQuiet vs H more
  one-quiet more x n node push own are = subst (AreQuiet vs H) (sym push) (λ a i e m v f. elim (one-of loud x false a e) [
    | inl g ↦ quiet-still x v (are a i g m v f)
    | inr r ↦ quiet-still x v (held (own r.1) node i (subst (λ k. In i (H k)) r.0 m) v f)
  ])
    where
      held : ((e : Entry) → In e n.entries.items → IsQuietEntry vertices loud e) × ((p : ℕ) → In p n.parts.items → slice_get loud p ≡ Some false) →
          IsNode vs H n (H (length loud)) → (i : ℕ) → In i (H (length loud)) → IsQuietNumber vs H loud i
      held q (inl s) i m v f =
          let there = s.2.one i m in
          let g : slice_get vs there.0 ≡ Some v = subst (λ k. slice_get vs k ≡ Some v) there.1 f in
          let c = s.3.covers there.0 v there.2 g in
          let own = s.3.each c.0 c.1 in
          let same : c.2.0 ≡ own.head = some-same (sym c.2.1 ∙ own.there) in
          entry-quiet s.0 c.0 (q.0 c.0 c.1) own there.0 there.2
          (record { field = v; there = g; same = subst (λ (h : FieldAt). SameHead h v) same c.2.2 }) v g
      held q (inr s) i m v f =
          let there = s.1.one i m in
          let p = in-flat there.0 n.parts.items there.2 in
          are p.0 there.0 (q.1 p.0 p.1) p.2 v (subst (λ k. slice_get vs k ≡ Some v) there.1 f)

  pub none-quiet : loud ≡ [] → AreQuiet vs H loud
  none-quiet empty a i e = none-some (subst (λ l. slice_get l a ≡ Some false) empty e)
