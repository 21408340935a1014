-- A chain of spreads that is longer than the list of fragments goes round, so it has no end.
use Rattle.std.specs.Prelude.{ℕ, zero, suc, true, false, List, [], ◌∷◌, length, Option, None, Some, ◌≡◌, ◌≤◌, ◌+◌}
use Rattle.std.specs.Str.{bytes_eq}
use Rattle.std.proofs.lemmas.Bool.{cases_Bool, both_ways, or_left, or_right}
use Rattle.std.proofs.Common.{refl, sym, ◌∙◌, inl, inr, subst, arith}
use Rattle.graphql_spec.specs.Shown.{Name}
use Rattle.graphql_spec.specs.Documents.{Fragment}
use Rattle.graphql_spec.specs.Fragments.{deep, deep_in, fragment_of, spreads, spreads_in}
use Rattle.graphql_spec.specs.Selections.{drop_key}
use Rattle.graphql_spec.specs.Laws.{In}
use Rattle.graphql_spec.proofs.Cycles.{Chain, any-from, chain-head, chain-known, chain_of, deep-some, drop-known, length-names, names}
use Rattle.graphql_spec.proofs.Lists.{same_refl, same_or, known, known-drop_other}
use Rattle.juniper_written.specs.Bounds.{LongIsEndless}

module _ (fs : List Fragment) where
  deep-at : (n : ℕ) (o : Option Fragment) (j : Name) → In j (spreads_in o) → deep fs n j ≡ true → deep_in (deep fs n) o ≡ true
  unfolding deep_in spreads_in
  deep-at n None j i e = absurd i
  deep-at n (Some x) j i e = any-from (deep fs n) (spreads x.selections) j i e

  -- one more spread before
  deep-next : (n : ℕ) (k j : Name) → In j (spreads_in (fragment_of fs k)) → deep fs n j ≡ true → deep fs (suc n) k ≡ true
  unfolding deep
  deep-next n k j i e = deep-at n (fragment_of fs k) j i e

  -- a chain that is longer is one that is shorter
  deep-less : (n : ℕ) (k : Name) → deep fs (suc n) k ≡ true → deep fs n k ≡ true
  unfolding deep
  deep-less zero k e = (deep-some fs zero (fragment_of fs k) e).0
  deep-less (suc n) k e = let p = deep-some fs (suc n) (fragment_of fs k) e in deep-at n (fragment_of fs k) p.1.0 p.1.1 (deep-less n p.1.0 p.1.2)

  deep-least : (d m n : ℕ) (k : Name) → m ≡ d + n → deep fs m k ≡ true → deep fs n k ≡ true
  deep-least zero m n k is e = subst (λ l. deep fs l k ≡ true) (let z : m ≡ n = omega (arith, is) in z) e
  deep-least (suc d) zero n k is e = absurd (omega (arith, is))
  deep-least (suc d) (suc m) n k is e = deep-least d m n k (omega (arith, is)) (deep-less m k e)

  -- the way from k to a name of its chain, before a chain of that name
  deep-back : (n : ℕ) (k x : Name) (js : List Name) → Chain fs k js → known x js ≡ true → deep fs n x ≡ true →
      (m : ℕ) × (d : ℕ) × (m ≡ d + n) × (deep fs (suc m) k ≡ true)
  unfolding known
  deep-back n k x [] c e d = absurd (both_ways false refl e)
  deep-back n k x (j ∷ js) c e d = elim (same_or x j) [
    | inl z ↦ (n, zero, omega arith, deep-next n k j c.1 (subst (λ w. deep fs n w ≡ true) z.1 d))
    | inr z ↦ let r = deep-back n j x js c.2 (rw z at e) d in (suc r.0, suc r.1, let is = r.2 in omega (arith, is), deep-next (suc r.0) k j c.1 r.3)
  ]

  goes-round : (n : ℕ) (k : Name) (js : List Name) → Chain fs k js → known k js ≡ true → deep fs n k ≡ true
  unfolding deep
  goes-round zero k js c e = chain-head fs k js c
  goes-round (suc n) k js c e = let r = deep-back n k k js c e (goes-round n k js c e) in
      deep-least r.1 (suc r.0) (suc n) k (let is = r.2 in omega (arith, is)) r.3

  -- more names than ys has: one comes twice
  round : (n : ℕ) (k : Name) (js ys : List Name) → Chain fs k js → length ys ≤ length js → ((j : Name) → known j (k ∷ js) ≡ true → known j ys ≡ true) →
      deep fs n k ≡ true
  unfolding known
  round n k [] [] c s a = absurd (both_ways false refl (a k (or_left (bytes_eq k k) false (same_refl k))))
  round n k [] (y ∷ ys) c s a = absurd (omega (arith, s))
  round n k (j ∷ js) ys c s a = elim (cases_Bool (known k (j ∷ js))) [
    | inl q ↦ goes-round n k (j ∷ js) c q
    | inr q ↦
        let shorter = drop-known k ys (a k (or_left (bytes_eq k k) (known k (j ∷ js)) (same_refl k))) in
        deep-less n k (deep-next n k j c.1 (round n j js (drop_key k ys) c.2 (omega (arith, shorter, s)) (λ i e. elim (same_or k i) [
          | inl z ↦ absurd (both_ways (known k (j ∷ js)) q (subst (λ w. known w (j ∷ js) ≡ true) (sym z.1) e))
          | inr z ↦ known-drop_other k i ys z ∙ a i (or_right (bytes_eq i k) (known i (j ∷ js)) e)
        ])))
  ]

pub long_is_endless : LongIsEndless
long_is_endless fs k e n =
    let r = chain_of fs (length fs) k e in
    let l = length-names fs in
    round fs n k r.0 (names fs) r.2 (omega (arith, r.1, l)) (chain-known fs k r.0 r.2)
