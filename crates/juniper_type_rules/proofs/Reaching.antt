-- What an operation reaches by names is what its spreads' numbers lead to.
use Rattle.std.proofs.Common.{◌≡◌, ℕ, zero, suc, ◌<◌, ◌⊎◌, ◌||◌, Bool, true, false, List, [], ◌∷◌, length, get_or, map, Option, Some, None, refl, sym}
use Rattle.std.proofs.Common.{ap, ◌∙◌, subst, inl, inr, arith}
use Rattle.std.specs.List.{list_any}
use Rattle.std.specs.Option.{option_to_list}
use Rattle.std.specs.Str.{bytes_eq}
use Rattle.std.proofs.lemmas.Bool.{cases_Bool, both_ways, or_cases, or_left, or_right}
use Rattle.std.proofs.lemmas.List.{get_or-map, length-map}
use Rattle.graphql_spec.specs.Shown.{Name}
use Rattle.graphql_spec.specs.Documents.{Fragment}
use Rattle.graphql_spec.specs.Fragments.{fragment_of, reaches, spreads_in}
use Rattle.graphql_spec.specs.Laws.{In}
use Rattle.graphql_spec.specs.VariableUses.{is_reached}
use Rattle.graphql_spec.proofs.Cycles.{any-where, reach-more}
use Rattle.graphql_spec.proofs.Grouping.{in_append, in_first, in_second}
use Rattle.graphql_spec.proofs.Lists.{same_refl, same_true}
use Rattle.juniper_written.specs.WrittenView.{named}
use Rattle.juniper_written.specs.declared.name_map.NameMap.{NameMap}
use Rattle.juniper_type_rules.specs.Numbers.{AreNumbers, IsMarked, IsNear, IsReach, numbers_at, spread_numbers_of}

any-one : (f : Name → Bool) (ks : List Name) (k : Name) → In k ks → f k ≡ true → list_any f ks ≡ true
any-one f [] k i e = absurd i
any-one f (j ∷ ks) k (inl q) e = or_left (f j) (list_any f ks) (subst (λ z. f z ≡ true) q e)
any-one f (j ∷ ks) k (inr i) e = or_right (f j) (list_any f ks) (any-one f ks k i e)

same_bool : (b c : Bool) → (b ≡ true → c ≡ true) → (c ≡ true → b ≡ true) → b ≡ c
same_bool true c f g = sym (f refl)
same_bool false true f g = g refl
same_bool false false f g = refl

got : {A : Type 0} {x y : A} → Some x ≡ Some y → x ≡ y
got e = cc

-- ## Numbers of names

held : (o : Option ℕ) (i : ℕ) → In i (option_to_list o) → o ≡ Some i
held None i e = absurd e
held (Some j) i e = elim e [ inl q ↦ ap Some (sym q) | inr q ↦ absurd q ]

module _ (m : NameMap ℕ) where
  in-numbers : (ks : List Name) (i : ℕ) → In i (numbers_at m ks) → (k : Name) × In k ks × (named m k ≡ Some i)
  unfolding numbers_at
  in-numbers [] i e = absurd e
  in-numbers (k ∷ ks) i e = elim (in_append i (option_to_list (named m k)) (numbers_at m ks) e) [
    | inl r ↦ (k, inl refl, held (named m k) i r)
    | inr r ↦ let q = in-numbers ks i r in (q.0, inr q.1, q.2)
  ]

  numbers-in : (ks : List Name) (k : Name) (i : ℕ) → In k ks → named m k ≡ Some i → In i (numbers_at m ks)
  unfolding numbers_at
  numbers-in [] k i e is = absurd e
  numbers-in (j ∷ ks) k i (inl q) is =
      in_first i (option_to_list (named m j)) (numbers_at m ks)
      (subst (λ o. In i (option_to_list o)) (sym (subst (λ z. named m z ≡ Some i) q is)) (inl refl))
  numbers-in (j ∷ ks) k i (inr r) is = in_second i (option_to_list (named m j)) (numbers_at m ks) (numbers-in ks k i r is)

-- ## Names of fragments

abbrev names : List Fragment → List Name
names = map (λ f. f.name.item)

known : (fs : List Fragment) (k j : Name) → In j (spreads_in (fragment_of fs k)) → In k (names fs)
unfolding fragment_of spreads_in
known [] k j e = absurd e
known (f ∷ fs) k j e = elim (cases_Bool (bytes_eq k f.name.item)) [
  | inl q ↦ inl (same_true k f.name.item q)
  | inr q ↦ inr (known fs k j (rw q at e))
]

module _ (fs : List Fragment) where
  reaches-one : (n : ℕ) (k j : Name) → In j (spreads_in (fragment_of fs k)) → reaches fs (suc n) k j ≡ true
  unfolding reaches
  reaches-one n k j e = any-one (λ i. bytes_eq j i || reaches fs n i j) (spreads_in (fragment_of fs k)) j e
      (or_left (bytes_eq j j) (reaches fs n j j) (same_refl j))

  reaches-on : (n : ℕ) (k j i : Name) → reaches fs n k j ≡ true → In i (spreads_in (fragment_of fs j)) → reaches fs (suc n) k i ≡ true
  unfolding reaches
  reaches-on zero k j i e s = absurd (both_ways false refl e)
  reaches-on (suc n) k j i e s =
      let w = any-where (λ x. bytes_eq j x || reaches fs n x j) (spreads_in (fragment_of fs k)) e in
      any-one (λ x. bytes_eq i x || reaches fs (suc n) x i) (spreads_in (fragment_of fs k)) w.0 w.1
      (or_right (bytes_eq i w.0) (reaches fs (suc n) w.0 i) (elim (or_cases (bytes_eq j w.0) (reaches fs n w.0 j) w.2) [
        | inl q ↦ reaches-one n w.0 i (subst (λ x. In i (spreads_in (fragment_of fs x))) (same_true j w.0 q) s)
        | inr q ↦ reaches-on n w.0 j i q s
      ]))

  -- ## What the numbers lead to

  module _ (m : NameMap ℕ) (numbers : AreNumbers m (names fs)) (lists : List (List ℕ)) (are : lists ≡ map (spread_numbers_of m fs) (names fs)) where
    many : length lists ≡ length (names fs)
    many = ap length are ∙ length-map (names fs) (spread_numbers_of m fs)

    -- what the list of a name's number has
    list-at : (k : Name) (i : ℕ) → named m k ≡ Some i → get_or lists i [] ≡ spread_numbers_of m fs k
    list-at k i is =
        let p = numbers.place k i is in
        ap (λ l. get_or l i []) are ∙ (get_or-map (spread_numbers_of m fs) (names fs) i [] [] p.0 ∙ ap (spread_numbers_of m fs) p.1)

    same-name : (k j : Name) (i : ℕ) → named m k ≡ Some i → named m j ≡ Some i → k ≡ j
    same-name k j i p q = sym (numbers.place k i p).1 ∙ (numbers.place j i q).1

    module _ (ks : List Name) where
      -- a number has a name, which is one of these or reached from one in as many steps
      near-name : (n i : ℕ) → IsNear lists (numbers_at m ks) n i →
          (k : Name) × (named m k ≡ Some i) × ((s : Name) × In s ks × ((k ≡ s) ⊎ (reaches fs n s k ≡ true)))
      unfolding IsNear
      near-name zero i near = let w = in-numbers m ks i near in (w.0, w.2, (w.0, w.1, inl refl))
      near-name (suc n) i (inl near) =
          let w = near-name n i near in
          (w.0, w.1, (w.2.0, w.2.1, elim w.2.2 [ inl q ↦ inl q | inr q ↦ inr (reach-more fs n (suc n) w.2.0 w.0 (omega arith) q) ]))
      near-name (suc n) i (inr p) =
          let w = near-name n p.0 p.1 in
          let v = in-numbers m (spreads_in (fragment_of fs w.0)) i (subst (λ l. In i l) (list-at w.0 p.0 w.1) p.2) in (
            v.0,
            v.2,
            (
              w.2.0,
              w.2.1,
              inr (elim w.2.2 [
                | inl q ↦ reaches-one n w.2.0 v.0 (subst (λ x. In v.0 (spreads_in (fragment_of fs x))) q v.1)
                | inr q ↦ reaches-on n w.2.0 w.0 v.0 q v.1
              ]),
            ),
          )

      module _ (marks : List Bool) (reach : IsReach lists (numbers_at m ks) marks) where
        abbrev Seen : Name → Type 0
        Seen k = (i : ℕ) → named m k ≡ Some i → IsMarked marks i

        within : (k : Name) (i : ℕ) → named m k ≡ Some i → i < length lists
        within k i is = let p = (numbers.place k i is).0 in omega (arith, p, many)

        seen-next : (k j : Name) → Seen k → In j (spreads_in (fragment_of fs k)) → Seen j
        seen-next k j seen s i is =
            let own = numbers.all k (known fs k j s) in
            reach.further own.0 i (seen own.0 own.1) (within j i is)
            (subst (λ l. In i l) (sym (list-at k own.0 own.1)) (numbers-in m (spreads_in (fragment_of fs k)) j i s is))

        seen-on : (n : ℕ) (k j : Name) → Seen k → reaches fs n k j ≡ true → Seen j
        unfolding reaches
        seen-on zero k j seen e = absurd (both_ways false refl e)
        seen-on (suc n) k j seen e =
            let w = any-where (λ x. bytes_eq j x || reaches fs n x j) (spreads_in (fragment_of fs k)) e in
            elim (or_cases (bytes_eq j w.0) (reaches fs n w.0 j) w.2) [
              | inl q ↦ subst Seen (sym (same_true j w.0 q)) (seen-next k w.0 seen w.1)
              | inr q ↦ seen-on n w.0 j (seen-next k w.0 seen w.1) q
            ]

        -- a number is marked where its name is reached
        pub marked-is : (k : Name) (i : ℕ) → named m k ≡ Some i → get_or marks i false ≡ is_reached fs ks k
        unfolding is_reached
        marked-is k i is = same_bool (get_or marks i false) (is_reached fs ks k)
            (λ e.
            let w = near-name (length lists) i (reach.near i e) in
            let same : w.0 ≡ k = same-name w.0 k i w.1 is in
            let all : length lists ≡ length fs = many ∙ length-map fs (λ f. f.name.item) in
            any-one (λ x. bytes_eq k x || reaches fs (length fs) x k) ks w.2.0 w.2.1 (elim w.2.2 [
              | inl q ↦ or_left (bytes_eq k w.2.0) (reaches fs (length fs) w.2.0 k) (subst (λ x. bytes_eq k x ≡ true) (sym same ∙ q) (same_refl k))
              | inr q ↦ or_right (bytes_eq k w.2.0) (reaches fs (length fs) w.2.0 k)
                  (subst (λ x. reaches fs (length fs) w.2.0 x ≡ true) same (subst (λ n. reaches fs n w.2.0 w.0 ≡ true) all q))
            ]))
            (λ e.
            let w = any-where (λ x. bytes_eq k x || reaches fs (length fs) x k) ks e in
            let first : Seen w.0 = λ j at. reach.first j (within w.0 j at) (numbers-in m ks w.0 j w.1 at) in
            elim (or_cases (bytes_eq k w.0) (reaches fs (length fs) w.0 k) w.2) [
              | inl q ↦ subst Seen (sym (same_true k w.0 q)) first i is
              | inr q ↦ seen-on (length fs) w.0 k first q i is
            ])
