-- A search that follows the spreads of each name that it finds, once, finds all that are reached and no others.
use Rattle.std.specs.Prelude.{ℕ, zero, suc, Bool, true, false, ◌||◌, cond, List, [], ◌∷◌, ◌++◌, length, ◌≡◌, ◌⊎◌}
use Rattle.std.specs.Str.{bytes_eq}
use Rattle.std.proofs.lemmas.Bool.{cases_Bool, or_cases, or_left, or_right}
use Rattle.std.proofs.Common.{refl, sym, ap, ◌∙◌, inl, inr, subst}
use Rattle.graphql_spec.specs.Shown.{Name}
use Rattle.graphql_spec.specs.Documents.{Fragment}
use Rattle.graphql_spec.specs.Fragments.{reaches}
use Rattle.graphql_spec.specs.VariableUses.{is_reached}
use Rattle.juniper_written.proofs.FragmentNames.{has, same, itself, true_false, same_bool, either, name_where, any_from, has_first, has_second, has_split, next}
use Rattle.juniper_written.proofs.Reaching.{at_once, reaches-leads, leads-reaches, leads-on}

module _ (fs : List Fragment) (P : Name → Type 0) (step : (k : Name) → P k → (i : Name) → has (next fs k) i ≡ true → P i) where
  steps : (m : ℕ) (k j : Name) → P k → reaches fs m k j ≡ true → P j
  unfolding reaches
  steps zero k j p e = true_false false e refl
  steps (suc m) k j p e =
      let r = name_where (λ i. bytes_eq j i || reaches fs m i j) (next fs k) e in
      elim (or_cases (bytes_eq j r.0) (reaches fs m r.0 j) r.2) [
        | inl q ↦ subst P (sym (same j r.0 q)) (step k p r.0 r.1)
        | inr q ↦ steps m r.0 j (step k p r.0 r.1) q
      ]

  -- what holds of names, and goes on from each to those that it spreads, holds of all that they reach
  pub carried : (ks : List Name) → ((k : Name) → has ks k ≡ true → P k) → (n : Name) → is_reached fs ks n ≡ true → P n
  unfolding is_reached
  carried ks all n e =
      let r = name_where (λ j. bytes_eq n j || reaches fs (length fs) j n) ks e in
      elim (or_cases (bytes_eq n r.0) (reaches fs (length fs) r.0 n) r.2) [
        | inl q ↦ subst P (sym (same n r.0 q)) (all r.0 r.1)
        | inr q ↦ steps (length fs) r.0 n (all r.0 r.1) q
      ]

module _ (fs : List Fragment) (start : List Name) where
  -- a search from names that has seen some, and has others left to look at
  pub record IsSearched (seen : Name → Bool) (left : List Name) : Type 0 where
    pub first : (k : Name) → has start k ≡ true → (seen k || has left k) ≡ true
    pub followed : (k : Name) → seen k ≡ true → (i : Name) → has (next fs k) i ≡ true → (seen i || has left i) ≡ true
    pub sound : (k : Name) → (seen k || has left k) ≡ true → is_reached fs start k ≡ true

  pub reached-start : (k : Name) → has start k ≡ true → is_reached fs start k ≡ true
  unfolding is_reached
  reached-start k e = any_from (λ j. bytes_eq k j || reaches fs (length fs) j k) start k e (or_left (bytes_eq k k) (reaches fs (length fs) k k) (itself k))

  pub reached-next : (k i : Name) → is_reached fs start k ≡ true → has (next fs k) i ≡ true → is_reached fs start i ≡ true
  unfolding is_reached
  reached-next k i e s =
      let r = name_where (λ j. bytes_eq k j || reaches fs (length fs) j k) start e in
      any_from (λ j. bytes_eq i j || reaches fs (length fs) j i) start r.0 r.1
      (or_right (bytes_eq i r.0) (reaches fs (length fs) r.0 i) (leads-reaches fs r.0 i (elim (or_cases (bytes_eq k r.0) (reaches fs (length fs) r.0 k) r.2) [
        | inl q ↦ at_once (subst (λ j. has (next fs j) i ≡ true) (same k r.0 q) s)
        | inr q ↦ leads-on fs (reaches-leads fs (length fs) r.0 k q) s
      ])))

  pub search-first : (seen : Name → Bool) → ((n : Name) → seen n ≡ false) → IsSearched seen start
  search-first seen none = record {
    first = λ k e. or_right (seen k) (has start k) e;
    followed = λ k s i e. true_false (seen k) s (none k);
    sound = λ k e. elim (or_cases (seen k) (has start k) e) [ inl q ↦ true_false (seen k) q (none k) | inr q ↦ reached-start k q ];
  }

  module _ (seen now : Name → Bool) (x : Name) (rest more : List Name) where
    taken : ((n : Name) → now n ≡ cond (bytes_eq x n) true (seen n)) → now x ≡ true
    taken is = is x ∙ ap (λ b. cond b true (seen x)) (itself x)

    stays : ((n : Name) → now n ≡ cond (bytes_eq x n) true (seen n)) → (k : Name) → seen k ≡ true → now k ≡ true
    stays is k s = is k ∙ elim (cases_Bool (bytes_eq x k)) [ inl q ↦ rw q refl | inr q ↦ rw q s ]

    back : ((n : Name) → now n ≡ cond (bytes_eq x n) true (seen n)) → (k : Name) → now k ≡ true → (x ≡ k) ⊎ (seen k ≡ true)
    back is k s = let e : cond (bytes_eq x k) true (seen k) ≡ true = sym (is k) ∙ s in
        elim (cases_Bool (bytes_eq x k)) [ inl q ↦ inl (same x k q) | inr q ↦ inr (rw q at e) ]

    -- what was seen or left is so still
    kept : ((n : Name) → now n ≡ cond (bytes_eq x n) true (seen n)) → (k : Name) → (seen k || has (rest ++ x ∷ []) k) ≡ true →
        (now k || has (rest ++ more) k) ≡ true
    kept is k e = elim (or_cases (seen k) (has (rest ++ x ∷ []) k) e) [
      | inl q ↦ or_left (now k) (has (rest ++ more) k) (stays is k q)
      | inr q ↦ elim (has_split rest (x ∷ []) k q) [
        | inl r ↦ or_right (now k) (has (rest ++ more) k) (has_first rest more k r)
        | inr r ↦ either k x [] r (λ z. or_left (now k) (has (rest ++ more) k) (subst (λ j. now j ≡ true) (sym z) (taken is))) (λ z. true_false false z refl)
      ]
    ]

    -- the last that was left is seen, and what it spreads is seen or left
    pub search-next : ((n : Name) → now n ≡ cond (bytes_eq x n) true (seen n)) → IsSearched seen (rest ++ x ∷ []) →
        ((i : Name) → has more i ≡ true → has (next fs x) i ≡ true) →
        ((i : Name) → has (next fs x) i ≡ true → (now i || has (rest ++ more) i) ≡ true) → IsSearched now (rest ++ more)
    search-next is old only all =
        let last : is_reached fs start x ≡ true = old.sound x (or_right (seen x) (has (rest ++ x ∷ []) x)
        (has_second rest (x ∷ []) x (or_left (bytes_eq x x) false (itself x)))) in
        record {
          first = λ k e. kept is k (old.first k e);
          followed =
              λ k s i e. elim (back is k s) [ inl z ↦ all i (subst (λ j. has (next fs j) i ≡ true) (sym z) e) | inr q ↦ kept is i (old.followed k q i e) ];
          sound = λ k e. elim (or_cases (now k) (has (rest ++ more) k) e) [
            | inl q ↦ elim (back is k q) [
              | inl z ↦ subst (λ j. is_reached fs start j ≡ true) z last
              | inr s ↦
                  old.sound k (or_left (seen k) (has (rest ++ x ∷ []) k) s)
            ]
            | inr q ↦ elim (has_split rest more k q) [
              | inl r ↦ old.sound k (or_right (seen k) (has (rest ++ x ∷ []) k) (has_first rest (x ∷ []) k r))
              | inr r ↦ reached-next x k last (only k r)
            ]
          ];
        }

    pub search-new : ((n : Name) → now n ≡ cond (bytes_eq x n) true (seen n)) → IsSearched seen (rest ++ x ∷ []) → more ≡ next fs x →
        IsSearched now (rest ++ more)
    search-new is old e = search-next is old (λ i h. subst (λ l. has l i ≡ true) e h)
        (λ i h. or_right (now i) (has (rest ++ more) i) (has_second rest more i (subst (λ l. has l i ≡ true) (sym e) h)))

    pub search-old : ((n : Name) → now n ≡ cond (bytes_eq x n) true (seen n)) → IsSearched seen (rest ++ x ∷ []) → seen x ≡ true → more ≡ [] →
        IsSearched now (rest ++ more)
    search-old is old s none = search-next is old (λ i h. true_false false (subst (λ l. has l i ≡ true) none h) refl) (λ i h. kept is i (old.followed x s i h))

  only_seen : (b : Bool) → (b || false) ≡ true → b ≡ true
  only_seen true e = refl
  only_seen false e = e

  pub search-ends : (seen : Name → Bool) → IsSearched seen [] → (n : Name) → seen n ≡ is_reached fs start n
  search-ends seen end n = same_bool (seen n) (is_reached fs start n) (λ s. end.sound n (or_left (seen n) false s))
      (carried fs (λ k. seen k ≡ true) (λ k s i h. only_seen (seen i) (end.followed k s i h)) start (λ k h. only_seen (seen k) (end.first k h)) n)
