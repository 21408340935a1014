-- What sets that are put together hold: their own fields, and those of their parts.
use Rattle.std.specs.Prelude.{ℕ, List, [], ◌∷◌, ◌++◌, ◌≡◌, ◌<◌, ◌+◌, ◌⊎◌, Option, Some, None, length, get_or, take}
use Rattle.std.specs.List.{slice_get}
use Rattle.std.proofs.lemmas.List.{append-nil, append_assoc}
use Rattle.std.proofs.Common.{refl, sym, ap, ◌∙◌, inl, inr, subst}
use Rattle.graphql_spec.specs.Laws.{In}
use Rattle.graphql_spec.proofs.Grouping.{in_append, in_first, in_second}
use Rattle.juniper_merging.specs.Nodes.{Alike, flat}
use Rattle.juniper_merging.specs.Sets.{IsTable}
use Rattle.juniper_merging.specs.Standing.{Both}
use Rattle.juniper_merging.specs.Tables.{joined, set_at, set_of, table_of}
use Rattle.juniper_merging.specs.Uniting.{fields_or_none, own_fields, own_parts, parts_or_none}
use Rattle.juniper_merging.specs.declared.sets.FieldSet.{FieldSet}
use Rattle.juniper_merging.proofs.Beside.{itself-alike}
use Rattle.juniper_merging.proofs.Growing.{alike-kept}
use Rattle.juniper_merging.proofs.Passed.{one-more}
use Rattle.juniper_merging.proofs.Places.{alike-both, both-across, both-first, both-parts, both-second, both-turned}
use Rattle.juniper_merging.proofs.Tables.{none-there, set-held, set-none}

-- ## Lists that hold the same in some order

pub alike-through : (xs ys zs : List ℕ) → Alike xs ys → Alike ys zs → Alike xs zs
alike-through xs ys zs a b = alike-kept (λ x i. x ≡ i) xs ys zs a b

pub alike-turned : (xs ys : List ℕ) → Alike xs ys → Alike ys xs
alike-turned xs ys a = record {
  one = λ x i. let r = a.one_back x i in (r.0, sym r.1, r.2);
  one_back = λ n i. let r = a.one n i in (r.0, sym r.1, r.2);
  two = λ x y b. let r = a.two_back x y b in (r.0, r.1, sym r.2, sym r.3, r.4);
  two_back = λ m n b. let r = a.two m n b in (r.0, r.1, sym r.2, sym r.3, r.4);
}

in-swapped : (xs ys : List ℕ) (x : ℕ) → In x (xs ++ ys) → In x (ys ++ xs)
in-swapped xs ys x i = elim (in_append x xs ys i) [ inl j ↦ in_second x ys xs j | inr j ↦ in_first x ys xs j ]

two-swapped : (xs ys : List ℕ) (x y : ℕ) → Both x y (xs ++ ys) → Both x y (ys ++ xs)
two-swapped xs ys x y b = elim (both-parts x y xs ys b) [
  | inl c ↦ both-second x y ys xs c
  | inr (inl c) ↦ both-first x y ys xs c
  | inr (inr (inl (i, j))) ↦ both-turned y x (ys ++ xs) (both-across y x ys xs j i)
  | inr (inr (inr (i, j))) ↦ both-across x y ys xs j i
]

pub alike-swapped : (xs ys : List ℕ) → Alike (xs ++ ys) (ys ++ xs)
alike-swapped xs ys = record {
  one = λ x i. (x, refl, in-swapped xs ys x i);
  one_back = λ n i. (n, refl, in-swapped ys xs n i);
  two = λ x y b. (x, y, refl, refl, two-swapped xs ys x y b);
  two_back = λ m n b. (m, n, refl, refl, two-swapped ys xs m n b);
}

pub alike-equal : (xs ys : List ℕ) → xs ≡ ys → Alike xs ys
alike-equal xs ys e = subst (Alike xs) e (itself-alike xs)

-- ## What several nodes hold

module _ (H : ℕ → List ℕ) where
  pub flat-append : (xs ys : List ℕ) → flat H (xs ++ ys) ≡ flat H xs ++ flat H ys
  unfolding flat
  flat-append [] ys = refl
  flat-append (x ∷ xs) ys = ap (λ l. H x ++ l) (flat-append xs ys) ∙ sym (append_assoc (H x) (flat H xs) (flat H ys))

  pub in-flat : (x : ℕ) (ds : List ℕ) → In x (flat H ds) → (d : ℕ) × In d ds × In x (H d)
  unfolding flat
  in-flat x [] i = absurd i
  in-flat x (d ∷ ds) i = elim (in_append x (H d) (flat H ds) i) [
    | inl j ↦ (d, inl refl, j)
    | inr j ↦ (let r = in-flat x ds j in (r.0, inr r.1, r.2))
  ]

  to-flat : (x d : ℕ) (ds : List ℕ) → In d ds → In x (H d) → In x (flat H ds)
  unfolding flat
  to-flat x d [] i j = absurd i
  to-flat x d (e ∷ ds) (inl q) j = in_first x (H e) (flat H ds) (subst (λ n. In x (H n)) q j)
  to-flat x d (e ∷ ds) (inr i) j = in_second x (H e) (flat H ds) (to-flat x d ds i j)

  two-flat : (x y : ℕ) (ds : List ℕ) → Both x y (flat H ds) →
      ((d : ℕ) × In d ds × Both x y (H d)) ⊎ ((d : ℕ) × (e : ℕ) × Both d e ds × In x (H d) × In y (H e))
  unfolding flat
  two-flat x y [] b = absurd b
  two-flat x y (d ∷ ds) b = elim (both-parts x y (H d) (flat H ds) b) [
    | inl c ↦ inl (d, inl refl, c)
    | inr (inl c) ↦ elim (two-flat x y ds c) [
      | inl r ↦ inl (r.0, inr r.1, r.2)
      | inr r ↦ inr (r.0, r.1, inr (inr r.2), r.3, r.4)
    ]
    | inr (inr (inl (i, j))) ↦ (let r = in-flat y ds j in inr (d, r.0, inl (refl, r.1), i, r.2))
    | inr (inr (inr (i, j))) ↦ (let r = in-flat x ds j in inr (r.0, d, inr (inl (refl, r.1)), r.2, i))
  ]

  pub own-flat : (x y d : ℕ) (ds : List ℕ) → In d ds → Both x y (H d) → Both x y (flat H ds)
  unfolding flat
  own-flat x y d [] i b = absurd i
  own-flat x y d (e ∷ ds) (inl q) b = both-first x y (H e) (flat H ds) (subst (λ n. Both x y (H n)) q b)
  own-flat x y d (e ∷ ds) (inr i) b = both-second x y (H e) (flat H ds) (own-flat x y d ds i b)

  apart-flat : (x y d e : ℕ) (ds : List ℕ) → Both d e ds → In x (H d) → In y (H e) → Both x y (flat H ds)
  unfolding flat
  apart-flat x y d e [] b i j = absurd b
  apart-flat x y d e (z ∷ ds) (inl (q, m)) i j = both-across x y (H z) (flat H ds) (subst (λ n. In x (H n)) q i) (to-flat y e ds m j)
  apart-flat x y d e (z ∷ ds) (inr (inl (q, m))) i j =
      both-turned y x (H z ++ flat H ds) (both-across y x (H z) (flat H ds) (subst (λ n. In y (H n)) q j) (to-flat x d ds m i))
  apart-flat x y d e (z ∷ ds) (inr (inr b)) i j = both-second x y (H z) (flat H ds) (apart-flat x y d e ds b i j)

  -- nodes that are the same in some order hold the same
  pub flat-alike : (ds es : List ℕ) → Alike ds es → Alike (flat H ds) (flat H es)
  flat-alike ds es a = record {
    one = λ x i. let r = in-flat x ds i in let q = a.one r.0 r.1 in (x, refl, to-flat x q.0 es q.2 (subst (λ n. In x (H n)) q.1 r.2));
    one_back = λ x i. let r = in-flat x es i in let q = a.one_back r.0 r.1 in (x, refl, to-flat x q.0 ds q.2 (subst (λ n. In x (H n)) (sym q.1) r.2));
    two = λ x y b. (x, y, refl, refl, there ds es a x y (two-flat x y ds b));
    two_back = λ x y b. (x, y, refl, refl, there es ds (alike-turned ds es a) x y (two-flat x y es b));
  }
    where
      there : (ds es : List ℕ) → Alike ds es → (x y : ℕ) →
          ((d : ℕ) × In d ds × Both x y (H d)) ⊎ ((d : ℕ) × (e : ℕ) × Both d e ds × In x (H d) × In y (H e)) → Both x y (flat H es)
      there ds es a x y (inl r) = let q = a.one r.0 r.1 in own-flat x y q.0 es q.2 (subst (λ n. Both x y (H n)) q.1 r.2)
      there ds es a x y (inr r) = let q = a.two r.0 r.1 r.2 in
          apart-flat x y q.0 q.1 es q.4 (subst (λ n. In x (H n)) q.2 r.3) (subst (λ n. In y (H n)) q.3 r.4)

-- ## What several sets hold

module _ (t : List (List ℕ)) where
  pub joined-flat : (ms : List ℕ) → joined t ms ≡ flat (set_at t) ms
  unfolding joined flat
  joined-flat [] = refl
  joined-flat (m ∷ ms) = ap (λ l. set_at t m ++ l) (joined-flat ms)

  pub joined-alike : (ds es : List ℕ) → Alike ds es → Alike (joined t ds) (joined t es)
  joined-alike ds es a = subst (λ l. Alike l (joined t es)) (sym (joined-flat ds)) (subst (Alike (flat (set_at t) ds)) (sym (joined-flat es))
      (flat-alike (set_at t) ds es a))

  pub joined-append : (xs ys : List ℕ) → joined t (xs ++ ys) ≡ joined t xs ++ joined t ys
  joined-append xs ys = joined-flat (xs ++ ys) ∙ (flat-append (set_at t) xs ys ∙ (λ k. sym (joined-flat xs) k ++ sym (joined-flat ys) k))

  pub joined-one : (s : ℕ) → joined t (s ∷ []) ≡ set_at t s
  unfolding joined
  joined-one s = append-nil (set_at t s)

module _ (sets : List FieldSet) where
  own-fields-append : (ms : List ℕ) (m : ℕ) → own_fields sets (ms ++ m ∷ []) ≡ own_fields sets ms ++ fields_or_none (slice_get sets m)
  unfolding own_fields
  own-fields-append [] m = append-nil (fields_or_none (slice_get sets m))
  own-fields-append (n ∷ ms) m = ap (λ l. fields_or_none (slice_get sets n) ++ l) (own-fields-append ms m)
      ∙ sym (append_assoc (fields_or_none (slice_get sets n)) (own_fields sets ms) (fields_or_none (slice_get sets m)))

  own-parts-append : (ms : List ℕ) (m : ℕ) → own_parts sets (ms ++ m ∷ []) ≡ own_parts sets ms ++ parts_or_none (slice_get sets m)
  unfolding own_parts
  own-parts-append [] m = append-nil (parts_or_none (slice_get sets m))
  own-parts-append (n ∷ ms) m = ap (λ l. parts_or_none (slice_get sets n) ++ l) (own-parts-append ms m)
      ∙ sym (append_assoc (parts_or_none (slice_get sets n)) (own_parts sets ms) (parts_or_none (slice_get sets m)))

  pub own-fields-at : (ms : List ℕ) (i m : ℕ) → i < length ms → m ≡ get_or ms i m →
      own_fields sets (take (i + 1) ms) ≡ own_fields sets (take i ms) ++ fields_or_none (slice_get sets m)
  own-fields-at ms i m below at = ap (own_fields sets) (one-more ms i m below at) ∙ own-fields-append (take i ms) m

  pub own-parts-at : (ms : List ℕ) (i m : ℕ) → i < length ms → m ≡ get_or ms i m →
      own_parts sets (take (i + 1) ms) ≡ own_parts sets (take i ms) ++ parts_or_none (slice_get sets m)
  own-parts-at ms i m below at = ap (own_parts sets) (one-more ms i m below at) ∙ own-parts-append (take i ms) m

  module _ (is : IsTable sets) where
    abbrev t : List (List ℕ)
    t = table_of sets

    held-whole : (b : ℕ) → set_at t b ≡ fields_or_none (slice_get sets b) ++ joined t (parts_or_none (slice_get sets b))
    unfolding fields_or_none parts_or_none joined set_of
    held-whole b = at (slice_get sets b) refl
      where
        at : (o : Option FieldSet) → slice_get sets b ≡ o → set_at t b ≡ fields_or_none (slice_get sets b) ++ joined t (parts_or_none (slice_get sets b))
        at None e = set-none t b (none-there sets t b (sym is.count) e) ∙ (λ u. fields_or_none (sym e u) ++ joined t (parts_or_none (sym e u)))
        at (Some s) e = set-held sets is b s e ∙ (λ u. fields_or_none (sym e u) ++ joined t (parts_or_none (sym e u)))

    -- sets hold their own fields, and what their parts do
    pub joined-own : (ms : List ℕ) → Alike (joined t ms) (own_fields sets ms ++ joined t (own_parts sets ms))
    unfolding joined own_fields own_parts
    joined-own [] = itself-alike []
    joined-own (m ∷ ms) =
        let f = fields_or_none (slice_get sets m) in
        let p = joined t (parts_or_none (slice_get sets m)) in
        let F = own_fields sets ms in
        let P = joined t (own_parts sets ms) in
        alike-through (set_at t m ++ joined t ms) ((f ++ p) ++ (F ++ P)) ((f ++ F) ++ joined t (parts_or_none (slice_get sets m) ++ own_parts sets ms))
        (alike-both (λ x i. x ≡ i) (set_at t m) (joined t ms) (f ++ p) (F ++ P) (alike-equal (set_at t m) (f ++ p) (held-whole m)) (joined-own ms))
        (subst (Alike ((f ++ p) ++ (F ++ P))) (ap (λ l. (f ++ F) ++ l) (sym (joined-append t (parts_or_none (slice_get sets m)) (own_parts sets ms))))
        (crossed f p F P))
      where
        crossed : (f p F P : List ℕ) → Alike ((f ++ p) ++ (F ++ P)) ((f ++ F) ++ (p ++ P))
        crossed f p F P = subst (λ l. Alike l ((f ++ F) ++ (p ++ P))) (sym (append_assoc f p (F ++ P))) (subst (Alike (f ++ (p ++ (F ++ P))))
            (sym (append_assoc f F (p ++ P))) (alike-both (λ x i. x ≡ i) f (p ++ (F ++ P)) f (F ++ (p ++ P)) (itself-alike f)
            (subst (λ l. Alike l (F ++ (p ++ P))) (append_assoc p F P) (subst (Alike ((p ++ F) ++ P)) (append_assoc F p P)
            (alike-both (λ x i. x ≡ i) (p ++ F) P (F ++ p) P (alike-swapped p F) (itself-alike P))))))
