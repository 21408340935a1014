-- The first of the kinds that is alike, and the number that it gives.
use Rattle.std.specs.Prelude.{ℕ, Bool, true, false, List, [], ◌∷◌, ◌≡◌, ◌<◌, ◌≤◌, ◌+◌, Option, Some, None, length, drop, get_or, map}
use Rattle.std.specs.List.{slice_get, find}
use Rattle.std.proofs.lemmas.Bool.{cases_Bool}
use Rattle.std.proofs.lemmas.List.{drop_all, drop_more, length-map}
use Rattle.std.proofs.Common.{refl, sym, ap, ◌∙◌, inl, inr, subst}
use Rattle.graphql_spec.specs.Laws.{In}
use Rattle.juniper_merging.specs.MergingGraph.{FieldAt, view_vertex}
use Rattle.juniper_merging.specs.declared.graph.Vertex.{Vertex}
use Rattle.juniper_field_graph.specs.KindsView.{number_or, first_alike, number_among}

-- ## What is found

module _ (test : ℕ → Bool) where
  pub find-some : (ks : List ℕ) (r : ℕ) → find test ks ≡ Some r → In r ks × (test r ≡ true)
  find-some [] r e = cc
  find-some (k ∷ ks) r e = elim (cases_Bool (test k)) [
    | inl q ↦ (let f : Some k ≡ Some r = rw q at e in let g : k ≡ r = cc in (inl (sym g), ap test (sym g) ∙ q))
    | inr q ↦ (let h = find-some ks r (rw q at e) in (inr h.0, h.1))
  ]

  pub find-none : (ks : List ℕ) → find test ks ≡ None → (r : ℕ) → In r ks → test r ≡ false
  find-none [] e r i = absurd i
  find-none (k ∷ ks) e r i = elim (cases_Bool (test k)) [
    | inl q ↦ (let f : Some k ≡ None = rw q at e in cc)
    | inr q ↦ elim i [ inl g ↦ ap test g ∙ q | inr j ↦ find-none ks (rw q at e) r j ]
  ]

-- ## A loop over kinds

module _ (test : ℕ → Bool) (ks : List ℕ) where
  -- what is left decides
  abbrev pub IsLeft : ℕ → Type 0
  IsLeft n = find test (drop n ks) ≡ find test ks

  pub kind-passed : (n : ℕ) (b : Bool) → n < length ks → b ≡ test (get_or ks n 0) → b ≡ false → IsLeft n → IsLeft (n + 1)
  kind-passed n b l told no' i = sym (ap (find test) (drop_more ks n 0 l) ∙ passed (drop (n + 1) ks)) ∙ i
    where
      passed : (rest : List ℕ) → find test (get_or ks n 0 ∷ rest) ≡ find test rest
      passed rest = let t : test (get_or ks n 0) ≡ false = sym told ∙ no' in rw t refl

  module _ (number : FieldAt → ℕ) (vertices : List Vertex) (t : List (List ℕ)) where
    pub kind-taken : (n : ℕ) (b : Bool) (m : ℕ) → n < length ks → b ≡ test (get_or ks n 0) → b ≡ true →
        m ≡ number_or number (length vertices) (slice_get (map (view_vertex t) vertices) (get_or ks n 0)) → IsLeft n →
        m ≡ number_among number (map (view_vertex t) vertices) test ks
    unfolding number_among first_alike
    kind-taken n b m l told yes' is i =
        is ∙ (ap (λ k. number_or number k (slice_get (map (view_vertex t) vertices) (get_or ks n 0))) (sym (length-map vertices (view_vertex t)))
        ∙ ap (λ o. number_or number (length (map (view_vertex t) vertices)) (first_alike (map (view_vertex t) vertices) o))
        (sym (ap (find test) (drop_more ks n 0 l) ∙ taken (drop (n + 1) ks)) ∙ i))
      where
        taken : (rest : List ℕ) → find test (get_or ks n 0 ∷ rest) ≡ Some (get_or ks n 0)
        taken rest = let t : test (get_or ks n 0) ≡ true = sym told ∙ yes' in rw t refl

    pub kind-missing : (n : ℕ) → length ks ≤ n → IsLeft n → length vertices ≡ number_among number (map (view_vertex t) vertices) test ks
    unfolding number_among first_alike number_or
    kind-missing n l i =
        sym (length-map vertices (view_vertex t))
        ∙ ap (λ o. number_or number (length (map (view_vertex t) vertices)) (first_alike (map (view_vertex t) vertices) o)) (sym (ap (find test)
        (drop_all n ks l)) ∙ i)

-- the same lists give the same number
pub among-same : {A : Type 0} (number : FieldAt → ℕ) (test : Option A → Bool) (vs ws : List FieldAt) (xs ys : List A) (ks ms ls : List ℕ) (n : ℕ) → vs ≡ ws →
    xs ≡ ys → ks ≡ ms → ms ≡ ls →
    n ≡ number_among number vs (λ r. test (slice_get xs r)) ks → n ≡ number_among number ws (λ r. test (slice_get ys r)) ls
among-same number test vs ws xs ys ks ms ls n e f g h is = subst (λ us. n ≡ number_among number us (λ r. test (slice_get ys r)) ls) e
    (subst (λ us. n ≡ number_among number vs (λ r. test (slice_get us r)) ls) f
    (subst (λ us. n ≡ number_among number vs (λ r. test (slice_get xs r)) us) (g ∙ h) is))
