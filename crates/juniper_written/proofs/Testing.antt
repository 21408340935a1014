-- Whether all items of a list pass a test, or one does: what is left decides.
use Rattle.std.proofs.Common.{◌≡◌, ℕ, ◌+◌, ◌<◌, ◌≤◌, ◌⊎◌, inl, inr, zero, suc, arith, Bool, true, false, ◌&&◌, ◌||◌, refl, sym, ap, subst, ◌∙◌}
use Rattle.std.proofs.Common.{List, [], ◌∷◌, Bor, length, get_or, drop, map}
use Rattle.std.specs.List.{list_all, list_any}
use Rattle.std.specs.Str.{bytes_eq}
use Rattle.std.proofs.lemmas.Bool.{or_left, or_right}
use Rattle.std.proofs.lemmas.List.{drop_all, drop_more}
use Rattle.graphql_spec.specs.Shown.{Name}
use Rattle.juniper_written.specs.WrittenView.{view_names}
use Rattle.juniper_written.proofs.FragmentNames.{has, itself, true_false, either}

module _ {A B : Type 0} (view : A → B) (test : B → Bool) (xs : List A) where
  -- those before it pass
  abbrev pub AllSoFar : ℕ → Type 0
  AllSoFar i = list_all test (map view xs) ≡ list_all test (map view (drop i xs))

  all-at : (i : ℕ) (d : A) → i < length xs → AllSoFar i → list_all test (map view xs)
      ≡ (test (view (get_or xs i d)) && list_all test (map view (drop (i + 1) xs)))
  all-at i d below so_far = so_far ∙ ap (λ l. list_all test (map view l)) (drop_more xs i d below)

  pub all-next : (i : ℕ) (d : A) → i < length xs → test (view (get_or xs i d)) ≡ true → AllSoFar i → AllSoFar (i + 1)
  all-next i d below holds so_far = all-at i d below so_far ∙ ap (λ b. b && list_all test (map view (drop (i + 1) xs))) holds

  pub all-fails : (i : ℕ) (d : A) → i < length xs → test (view (get_or xs i d)) ≡ false → AllSoFar i → false ≡ list_all test (map view xs)
  all-fails i d below fails so_far = sym (all-at i d below so_far ∙ ap (λ b. b && list_all test (map view (drop (i + 1) xs))) fails)

  pub all-ends : (i : ℕ) → length xs ≤ i → AllSoFar i → true ≡ list_all test (map view xs)
  all-ends i past so_far = sym (so_far ∙ ap (λ l. list_all test (map view l)) (drop_all i xs past))

  -- none before it passes
  abbrev pub NoneSoFar : ℕ → Type 0
  NoneSoFar i = list_any test (map view xs) ≡ list_any test (map view (drop i xs))

  any-at : (i : ℕ) (d : A) → i < length xs → NoneSoFar i → list_any test (map view xs)
      ≡ (test (view (get_or xs i d)) || list_any test (map view (drop (i + 1) xs)))
  any-at i d below so_far = so_far ∙ ap (λ l. list_any test (map view l)) (drop_more xs i d below)

  pub any-next : (i : ℕ) (d : A) → i < length xs → test (view (get_or xs i d)) ≡ false → NoneSoFar i → NoneSoFar (i + 1)
  any-next i d below fails so_far = any-at i d below so_far ∙ ap (λ b. b || list_any test (map view (drop (i + 1) xs))) fails

  pub any-holds : (i : ℕ) (d : A) → i < length xs → test (view (get_or xs i d)) ≡ true → NoneSoFar i → true ≡ list_any test (map view xs)
  any-holds i d below holds so_far = sym (any-at i d below so_far ∙ ap (λ b. b || list_any test (map view (drop (i + 1) xs))) holds)

  pub any-ends : (i : ℕ) → length xs ≤ i → NoneSoFar i → false ≡ list_any test (map view xs)
  any-ends i past so_far = sym (so_far ∙ ap (λ l. list_any test (map view l)) (drop_all i xs past))

-- the names of a list are among them
pub has-at : (xs : List (Bor (List ℕ))) (i : ℕ) (d : Bor (List ℕ)) → i < length xs → has (view_names xs) (get_or xs i d).now ≡ true
has-at [] i d below = absurd (omega (arith, below))
has-at (x ∷ xs) zero d below = or_left (bytes_eq x.now x.now) (has (view_names xs) x.now) (itself x.now)
has-at (x ∷ xs) (suc i) d below = or_right (bytes_eq (get_or xs i d).now x.now) (has (view_names xs) (get_or xs i d).now) (has-at xs i d (omega (arith, below)))

-- of each of the names something holds, so far as they were seen
module _ (xs : List (Bor (List ℕ))) where
  abbrev pub HoldsSoFar : (Name → Type 0) → ℕ → Type 0
  HoldsSoFar P i = (k : Name) → has (view_names xs) k ≡ true → P k ⊎ (has (view_names (drop i xs)) k ≡ true)

  pub holds-next : (P Q : Name → Type 0) (i : ℕ) (d : Bor (List ℕ)) → i < length xs → ((k : Name) → P k → Q k) → Q (get_or xs i d).now → HoldsSoFar P i →
      HoldsSoFar Q (i + 1)
  holds-next P Q i d below grows holds so_far k h = elim (so_far k h) [
    | inl p ↦ inl (grows k p)
    | inr r ↦ either k (get_or xs i d).now (view_names (drop (i + 1) xs)) (subst (λ l. has (view_names l) k ≡ true) (drop_more xs i d below) r)
        (λ q. inl (subst Q (sym q) holds)) (λ s. inr s)
  ]

  pub holds-ends : (P : Name → Type 0) (i : ℕ) → length xs ≤ i → HoldsSoFar P i → (k : Name) → has (view_names xs) k ≡ true → P k
  holds-ends P i past so_far k h = elim (so_far k h) [
    | inl p ↦ p
    | inr r ↦ true_false false (subst (λ l. has (view_names l) k ≡ true) (drop_all i xs past) r) refl
  ]
