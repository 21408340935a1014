-- Spreads that lead to a name lead to it by distinct fragments, of which there are no more than the document has.
use Rattle.std.specs.Prelude.{ℕ, zero, suc, true, false, ◌||◌, List, [], ◌∷◌, length, ◌≡◌, ◌≤◌}
use Rattle.std.specs.List.{IsDistinct}
use Rattle.std.specs.Str.{bytes_eq}
use Rattle.std.proofs.lemmas.Bool.{cases_Bool, or_cases, or_left, or_right}
use Rattle.std.proofs.lemmas.Map.Keys.{IsDistinct-tail}
use Rattle.std.proofs.Common.{refl, sym, inl, inr, subst, arith}
use Rattle.graphql_spec.specs.Shown.{Name}
use Rattle.graphql_spec.specs.Documents.{Fragment}
use Rattle.graphql_spec.specs.Fragments.{reaches}
use Rattle.juniper_written.proofs.FragmentNames.{has, same, itself, true_false, either, name_where, any_from, distinct_one, distinct_more, no_more, names, names_known}
use Rattle.juniper_written.proofs.FragmentNames.{length_names, next, spreads_known}

-- b is spread by a, or by a fragment that a leads to
pub data Leads (fs : List Fragment) : Name → Name → Type 0 where
  at_once : {a b : Name} → has (next fs a) b ≡ true → Leads fs a b
  by_way : {a b c : Name} → has (next fs a) b ≡ true → Leads fs b c → Leads fs a c

module _ (fs : List Fragment) where
  -- a goes through js to b
  abbrev Way : Name → List Name → Name → Type 0
  Way a [] b = has (next fs a) b ≡ true
  Way a (j ∷ js) b = (has (next fs a) j ≡ true) × Way j js b

  pub reaches-leads : (n : ℕ) (a b : Name) → reaches fs n a b ≡ true → Leads fs a b
  unfolding reaches
  reaches-leads zero a b e = true_false false e refl
  reaches-leads (suc n) a b e =
      let r = name_where (λ i. bytes_eq b i || reaches fs n i b) (next fs a) e in
      elim (or_cases (bytes_eq b r.0) (reaches fs n r.0 b) r.2) [
        | inl q ↦ at_once (subst (λ k. has (next fs a) k ≡ true) (sym (same b r.0 q)) r.1)
        | inr q ↦ by_way r.1 (reaches-leads n r.0 b q)
      ]

  pub reaches-more : (n m : ℕ) (a b : Name) → n ≤ m → reaches fs n a b ≡ true → reaches fs m a b ≡ true
  unfolding reaches
  reaches-more zero m a b l e = true_false false e refl
  reaches-more (suc n) zero a b l e = absurd (omega (arith, l))
  reaches-more (suc n) (suc m) a b l e =
      let r = name_where (λ i. bytes_eq b i || reaches fs n i b) (next fs a) e in
      any_from (λ i. bytes_eq b i || reaches fs m i b) (next fs a) r.0 r.1 (elim (or_cases (bytes_eq b r.0) (reaches fs n r.0 b) r.2) [
        | inl q ↦ or_left (bytes_eq b r.0) (reaches fs m r.0 b) q
        | inr q ↦ or_right (bytes_eq b r.0) (reaches fs m r.0 b) (reaches-more n m r.0 b (omega (arith, l)) q)
      ])

  way-reaches : (a : Name) (js : List Name) (b : Name) → Way a js b → reaches fs (suc (length js)) a b ≡ true
  unfolding reaches
  way-reaches a [] b w = any_from (λ i. bytes_eq b i || reaches fs zero i b) (next fs a) b w (or_left (bytes_eq b b) (reaches fs zero b b) (itself b))
  way-reaches a (j ∷ js) b w = any_from (λ i. bytes_eq b i || reaches fs (suc (length js)) i b) (next fs a) j w.0
      (or_right (bytes_eq b j) (reaches fs (suc (length js)) j b) (way-reaches j js b w.1))

  -- a way that comes through a goes from a on
  cut : (a j : Name) (js : List Name) (b : Name) → IsDistinct bytes_eq (j ∷ js) → Way j js b → has (j ∷ js) a ≡ true →
      (is : List Name) × IsDistinct bytes_eq (a ∷ is) × Way a is b
  cut a j [] b d w e =
      either a j [] e (λ q. ([], subst (λ i. IsDistinct bytes_eq (i ∷ [])) (sym q) d, subst (λ i. Way i [] b) (sym q) w)) (λ q. true_false false q refl)
  cut a j (i ∷ js) b d w e = either a j (i ∷ js) e
      (λ q. (i ∷ js, subst (λ x. IsDistinct bytes_eq (x ∷ i ∷ js)) (sym q) d, subst (λ x. Way x (i ∷ js) b) (sym q) w))
      (λ q. cut a i js b (IsDistinct-tail bytes_eq j (i ∷ js) d) w.1 q)

  simple : {a b : Name} → Leads fs a b → (js : List Name) × IsDistinct bytes_eq (a ∷ js) × Way a js b
  simple {a} {b} (at_once s) = ([], distinct_one a, s)
  simple {a} {b} (by_way {b = j} s r) =
      let t = simple r in
      elim (cases_Bool (has (j ∷ t.0) a)) [
        | inl q ↦ cut a j t.0 b t.1 t.2 q
        | inr q ↦ (j ∷ t.0, distinct_more a (j ∷ t.0) q t.1, (s, t.2))
      ]

  way-known : (a : Name) (js : List Name) (b : Name) → Way a js b → (k : Name) → has (a ∷ js) k ≡ true → has (names fs) k ≡ true
  way-known a [] b w k e =
      either k a [] e (λ q. subst (λ i. has (names fs) i ≡ true) (sym q) (names_known fs a (spreads_known fs a b w))) (λ q. true_false false q refl)
  way-known a (j ∷ js) b w k e = either k a (j ∷ js) e
      (λ q. subst (λ i. has (names fs) i ≡ true) (sym q) (names_known fs a (spreads_known fs a j w.0)))
      (λ q. way-known j js b w.1 k q)

  -- as many steps as there are fragments are enough
  pub leads-reaches : (a b : Name) → Leads fs a b → reaches fs (length fs) a b ≡ true
  leads-reaches a b r =
      let t = simple r in
      let few = no_more (a ∷ t.0) (names fs) t.1 (way-known a t.0 b t.2) in
      let all = length_names fs in
      reaches-more (suc (length t.0)) (length fs) a b (omega (arith, few, all)) (way-reaches a t.0 b t.2)

  pub leads-on : {a b c : Name} → Leads fs a b → has (next fs b) c ≡ true → Leads fs a c
  leads-on (at_once s) t = by_way s (at_once t)
  leads-on (by_way s r) t = by_way s (leads-on r t)
