-- The entries of a node by their response keys.
use Rattle.std.specs.Prelude.{ℕ, true, false, cond, List, [], ◌∷◌, ◌++◌, ◌≡◌, Some, None, Vec, nat_eq}
use Rattle.std.specs.List.{slice_get}
use Rattle.std.specs.declared.alloc.Global.{Global}
use Rattle.std.proofs.lemmas.Bool.{cases_Bool}
use Rattle.std.proofs.Common.{refl, sym, ap, ◌∙◌, inl, inr, subst}
use Rattle.graphql_spec.specs.Laws.{In}
use Rattle.graphql_spec.proofs.Grouping.{in_append, in_first, in_second}
use Rattle.juniper_merging.specs.Conflicts.{AreAllPaired, IsCleared, IsIndexOf}
use Rattle.juniper_merging.specs.Listed.{IsListedMore, listed}
use Rattle.juniper_merging.specs.MergingGraph.{FieldAt}
use Rattle.juniper_merging.specs.declared.clash.Clash.{Clash}
use Rattle.juniper_merging.specs.declared.nodes.Entry.{Entry}
use Rattle.juniper_merging.proofs.Joint.{fields-pass, heads-key}
use Rattle.juniper_merging.proofs.Listing.{now-listed, only-listed, still-listed}
use Rattle.juniper_merging.proofs.Looked.{none-some}
use Rattle.juniper_merging.proofs.Numbers.{itself, same-number}
use Rattle.juniper_merging.proofs.Told.{some-same}

no-members : {A : Type 0} (l : List A) → ((y : A) → In y l → ⊥) → l ≡ []
no-members [] none = refl
no-members (y ∷ l) none = absurd (none y (inl refl))

module _ (vs : List FieldAt) where
  -- where nothing is listed, there are no entries
  pub index-none : (index : List (Vec Entry Global)) → ((i : ℕ) → listed index i ≡ []) → IsIndexOf vs index []
  index-none index none = record { all = λ e v i q. absurd i; only = λ k e i. absurd (subst (In e) (none k) i) }

  -- ## One entry more

  module _ (es : List Entry) (x : Entry) (old new : List (Vec Entry Global)) where
    pub index-missing : slice_get vs x.field ≡ None → IsIndexOf vs old es → IsIndexOf vs old (es ++ x ∷ [])
    index-missing none is = record {
      all = λ y v i e. elim (in_append y es (x ∷ []) i) [
        | inl j ↦ is.all y v j e
        | inr (inl q) ↦ none-some (sym none ∙ (sym (ap (λ (z : Entry). slice_get vs z.field) q) ∙ e))
        | inr (inr j) ↦ absurd j
      ];
      only = λ k y i. let r = is.only k y i in (in_first y es (x ∷ []) r.0, r.1);
    }

    pub index-more : (v : FieldAt) → slice_get vs x.field ≡ Some v → IsListedMore old new v.key x → IsIndexOf vs old es → IsIndexOf vs new (es ++ x ∷ [])
    index-more v there more is = record {
      all = λ y w i e. elim (in_append y es (x ∷ []) i) [
        | inl j ↦ still-listed old new v.key x more w.key y (is.all y w j e)
        | inr (inl q) ↦ (let same : v ≡ w = some-same (sym there ∙ (sym (ap (λ (z : Entry). slice_get vs z.field) q) ∙ e)) in
            subst (λ (u : FieldAt). In y (listed new u.key)) same (subst (λ (z : Entry). In z (listed new v.key)) (sym q) (now-listed old new v.key x more)))
        | inr (inr j) ↦ absurd j
      ];
      only = λ k y i. elim (only-listed old new v.key x more k y i) [
        | inl j ↦ (let r = is.only k y j in (in_first y es (x ∷ []) r.0, r.1))
        | inr r ↦ (in_second y es (x ∷ []) (inl r.0), (v, ap (λ (z : Entry). slice_get vs z.field) r.0 ∙ there, sym r.1))
      ];
    }

  -- ## An entry beside those of the index

  pub beside-index : (F G : List ℕ) (index : List (Vec Entry Global)) (es : List Entry) (v k : FieldAt) (c : Clash) → IsIndexOf vs index es → v.key ≡ k.key →
      AreAllPaired vs F G (listed index v.key) k c → AreAllPaired vs F G es k c
  beside-index F G index es v k c is same paired = record {
    good = λ m e x i h there n a b ia ha ib hb. elim (cases_Bool (nat_eq v.key h.key)) [
      | inl q ↦ paired.good m e x (subst (λ z. In x (listed index z)) (sym (same-number v.key h.key q)) (is.all x h i there)) h there n a b ia ha ib hb
      | inr q ↦ fields-pass vs m a b ha.field hb.field ha.there hb.there n (λ t. never (sym (subst (λ z. nat_eq v.key z ≡ true)
          (same ∙ sym (same-number h.key k.key (heads-key h ha.field k hb.field ha.same hb.same ∙ t))) (itself v.key)) ∙ q))
    ];
    bad = λ m e. let r = paired.bad m e in (r.0, (is.only v.key r.0 r.1).0, r.2);
  }
    where
      never : {A : Type 0} → true ≡ false → A
      never e = cc

  -- ## Entries that are taken out

  pub cleared-at : (x : Entry) (v : FieldAt) (old new : List (Vec Entry Global)) → slice_get vs x.field ≡ Some v →
      ((i : ℕ) → listed new i ≡ cond (nat_eq v.key i) [] (listed old i)) → IsCleared vs x old new
  cleared-at x v old new there cleared k y m = elim (cases_Bool (nat_eq v.key k)) [
    | inl q ↦ absurd (subst (In y) (cleared k ∙ ap (λ b. cond b [] (listed old k)) q) m)
    | inr q ↦ (subst (In y) (cleared k ∙ ap (λ b. cond b [] (listed old k)) q) m, λ w e f. apart w e f q)
  ]
    where
      never : {A : Type 0} → true ≡ false → A
      never e = cc

      apart : (w : FieldAt) → slice_get vs x.field ≡ Some w → w.key ≡ k → nat_eq v.key k ≡ false → ⊥
      apart w e f q =
          let same : v ≡ w = some-same (sym there ∙ e) in
          never (sym (subst (λ n. nat_eq v.key n ≡ true) (ap (λ (u : FieldAt). u.key) same ∙ f) (itself v.key)) ∙ q)

  pub cleared-missing : (x : Entry) (index : List (Vec Entry Global)) → slice_get vs x.field ≡ None → IsCleared vs x index index
  cleared-missing x index none k y m = (m, λ v e. none-some (sym none ∙ e))

  -- what is left has none of the response keys of these entries
  abbrev pub AreCleared : List Entry → List (Vec Entry Global) → List (Vec Entry Global) → Type 0
  AreCleared xs old new = (k : ℕ) (y : Entry) → In y (listed new k) → In y (listed old k)
      × ((x : Entry) → In x xs → (v : FieldAt) → slice_get vs x.field ≡ Some v → (v.key ≡ k → ⊥))

  pub cleared-none : (index : List (Vec Entry Global)) → AreCleared [] index index
  cleared-none index k y m = (m, λ x i. absurd i)

  pub cleared-more : (xs : List Entry) (x : Entry) (old mid new : List (Vec Entry Global)) → IsCleared vs x mid new → AreCleared xs old mid →
      AreCleared (xs ++ x ∷ []) old new
  cleared-more xs x old mid new one before k y m =
      let r = one k y m in
      let s = before k y r.0 in (
        s.0,
        λ z i v e. elim (in_append z xs (x ∷ []) i) [
          | inl j ↦ s.1 z j v e
          | inr (inl q) ↦ r.1 v (sym (ap (λ (u : Entry). slice_get vs u.field) q) ∙ e)
          | inr (inr j) ↦ absurd j
        ],
      )

  pub all-cleared : (xs : List Entry) (old new : List (Vec Entry Global)) → IsIndexOf vs old xs → AreCleared xs old new → (k : ℕ) → listed new k ≡ []
  all-cleared xs old new is cleared k = no-members (listed new k) (λ y m.
      let r = cleared k y m in
      let s = is.only k y r.0 in
      r.1 y s.0 s.1.0 s.1.1 s.1.2)
