-- What is gathered of a selection set, and the set that is made of it.
use Rattle.std.specs.Prelude.{ℕ, List, [], ◌∷◌, ◌++◌, ◌≡◌, Some, Vec, length}
use Rattle.std.specs.declared.alloc.Global.{Global}
use Rattle.std.specs.List.{slice_get}
use Rattle.std.proofs.lemmas.List.{append_assoc, append-nil}
use Rattle.std.proofs.Common.{refl, sym, ap, ◌∙◌, inl, inr, subst}
use Rattle.graphql_spec.specs.Laws.{In}
use Rattle.graphql_spec.proofs.Grouping.{in_append, in_first, in_second}
use Rattle.juniper_merging.specs.Standing.{AreAlike, Both}
use Rattle.juniper_merging.specs.Sets.{IsInside, IsPut, IsSetOf, IsTable}
use Rattle.juniper_merging.specs.Tables.{joined, set_at, set_of, table_of}
use Rattle.juniper_merging.specs.declared.sets.FieldSet.{FieldSet}
use Rattle.juniper_merging.specs.declared.sets.Gathering.{Gathering}
use Rattle.juniper_merging.proofs.Places.{alike-both, both-across, both-first, both-parts, both-second, both-turned}
use Rattle.juniper_merging.proofs.Tables.{extends-more, last-set, table-with}

-- ## Lists that hold the same in some order

abbrev Alike : List ℕ → List ℕ → Type 0
Alike = AreAlike (λ x i. x ≡ i)

none-alike : Alike [] []
none-alike = record { one = λ x i. absurd i; one_back = λ n i. absurd i; two = λ x y b. absurd b; two_back = λ m n b. absurd b }

itself-alike : (xs : List ℕ) → Alike xs xs
itself-alike xs = record {
  one = λ x i. (x, refl, i);
  one_back = λ n i. (n, refl, i);
  two = λ x y b. (x, y, refl, refl, b);
  two_back = λ m n b. (m, n, refl, refl, b);
}

module _ (xs ys zs : List ℕ) where
  -- the last two of three lists change places
  in-moved : (x : ℕ) → In x ((xs ++ ys) ++ zs) → In x ((xs ++ zs) ++ ys)
  in-moved x i = elim (in_append x (xs ++ ys) zs i) [
    | inl j ↦ elim (in_append x xs ys j) [ inl k ↦ in_first x (xs ++ zs) ys (in_first x xs zs k) | inr k ↦ in_second x (xs ++ zs) ys k ]
    | inr j ↦ in_first x (xs ++ zs) ys (in_second x xs zs j)
  ]

  two-moved : (x y : ℕ) → Both x y ((xs ++ ys) ++ zs) → Both x y ((xs ++ zs) ++ ys)
  two-moved x y b = elim (both-parts x y (xs ++ ys) zs b) [
    | inl c ↦ elim (both-parts x y xs ys c) [
      | inl d ↦ both-first x y (xs ++ zs) ys (both-first x y xs zs d)
      | inr (inl d) ↦ both-second x y (xs ++ zs) ys d
      | inr (inr (inl (i, j))) ↦ both-across x y (xs ++ zs) ys (in_first x xs zs i) j
      | inr (inr (inr (i, j))) ↦ both-turned y x ((xs ++ zs) ++ ys) (both-across y x (xs ++ zs) ys (in_first y xs zs i) j)
    ]
    | inr (inl c) ↦ both-first x y (xs ++ zs) ys (both-second x y xs zs c)
    | inr (inr (inl (i, j))) ↦ across x y i j
    | inr (inr (inr (i, j))) ↦ both-turned y x ((xs ++ zs) ++ ys) (across y x i j)
  ]
    where
      across : (x y : ℕ) → In x (xs ++ ys) → In y zs → Both x y ((xs ++ zs) ++ ys)
      across x y i j = elim (in_append x xs ys i) [
        | inl k ↦ both-first x y (xs ++ zs) ys (both-across x y xs zs k j)
        | inr k ↦ both-turned y x ((xs ++ zs) ++ ys) (both-across y x (xs ++ zs) ys (in_second y xs zs j) k)
      ]

moved-alike : (all xs ys zs : List ℕ) → Alike all ((xs ++ ys) ++ zs) → Alike all ((xs ++ zs) ++ ys)
moved-alike all xs ys zs a = record {
  one = λ x i. let r = a.one x i in (r.0, r.1, in-moved xs ys zs r.0 r.2);
  one_back = λ n i. a.one_back n (in-moved xs zs ys n i);
  two = λ x y b. let r = a.two x y b in (r.0, r.1, r.2, r.3, two-moved xs ys zs r.0 r.1 r.4);
  two_back = λ m n b. a.two_back m n (two-moved xs zs ys m n b);
}

-- ## What is gathered

module _ (t : List (List ℕ)) where
  pub joined-more : (is : List ℕ) (i : ℕ) → joined t (is ++ i ∷ []) ≡ joined t is ++ set_at t i
  unfolding joined
  joined-more [] i = append-nil (set_at t i)
  joined-more (j ∷ is) i = ap (λ l. set_at t j ++ l) (joined-more is i) ∙ sym (append_assoc (set_at t j) (joined t is) (set_at t i))

  pub nothing-gathered : (g : Gathering) → g.fields.items ≡ [] → g.parts.items ≡ [] → IsSetOf t g []
  unfolding joined
  nothing-gathered g e f = record {
    inside = λ i j. absurd (subst (In i) f j);
    alike = subst (λ l. Alike [] (l ++ joined t g.parts.items)) (sym e) (subst (λ l. Alike [] (joined t l)) (sym f) none-alike);
  }

  -- a field more, at the end
  pub field-gathered : (old new : Gathering) (all : List ℕ) (i : ℕ) → new.parts.items ≡ old.parts.items → new.fields.items ≡ old.fields.items ++ i ∷ [] →
      IsSetOf t old all → IsSetOf t new (all ++ i ∷ [])
  field-gathered old new all i f e is = record {
    inside = λ j k. is.inside j (subst (In j) f k);
    alike = subst (λ l. Alike (all ++ i ∷ []) (l ++ joined t new.parts.items)) (sym e)
        (subst (λ l. Alike (all ++ i ∷ []) ((old.fields.items ++ i ∷ []) ++ joined t l)) (sym f)
        (moved-alike (all ++ i ∷ []) old.fields.items (joined t old.parts.items) (i ∷ [])
        (alike-both (λ x j. x ≡ j) all (i ∷ []) (old.fields.items ++ joined t old.parts.items) (i ∷ []) is.alike (itself-alike (i ∷ [])))));
  }

  -- a set more, at the end
  pub set-gathered : (old new : Gathering) (all : List ℕ) (i : ℕ) → new.fields.items ≡ old.fields.items → new.parts.items ≡ old.parts.items ++ i ∷ [] →
      IsInside t i → IsSetOf t old all → IsSetOf t new (all ++ set_at t i)
  set-gathered old new all i e f inside is = record {
    inside = λ j k. elim (in_append j old.parts.items (i ∷ []) (subst (In j) f k)) [
      | inl m ↦ is.inside j m
      | inr (inl q) ↦ subst (IsInside t) (sym q) inside
      | inr (inr m) ↦ absurd m
    ];
    alike = subst (λ l. Alike (all ++ set_at t i) (l ++ joined t new.parts.items)) (sym e)
        (subst (λ l. Alike (all ++ set_at t i) (old.fields.items ++ l)) (sym (ap (joined t) f ∙ joined-more old.parts.items i))
        (subst (Alike (all ++ set_at t i)) (append_assoc old.fields.items (joined t old.parts.items) (set_at t i))
        (alike-both (λ x j. x ≡ j) all (set_at t i) (old.fields.items ++ joined t old.parts.items) (set_at t i) is.alike (itself-alike (set_at t i)))));
  }

-- ## The set that is made

module _ (xs : List FieldSet) (g : Gathering) (all : List ℕ) (is : IsTable xs) (so : IsSetOf (table_of xs) g all) where
  -- else it is put behind the others
  pub whole-put : (ys : List FieldSet) (i : ℕ) (s : FieldSet) → s.fields ≡ g.fields → s.parts ≡ g.parts → ys ≡ xs ++ s ∷ [] → i ≡ length xs →
      IsPut xs ys all i
  unfolding set_of
  whole-put ys i s e f put at = subst (λ zs. IsPut xs zs all i) (sym put) (record {
    table = table-with xs s is (λ p m. so.inside p (subst (λ (v : Vec ℕ Global). In p v.items) f m));
    more = extends-more xs s is;
    kept = set_of (table_of xs) s;
    there = subst (λ n. slice_get (table_of (xs ++ s ∷ [])) n ≡ Some (set_of (table_of xs) s)) (sym at) (last-set xs s is);
    alike = subst (λ (v : Vec ℕ Global). Alike all (v.items ++ joined (table_of xs) s.parts.items)) (sym e)
        (subst (λ (v : Vec ℕ Global). Alike all (g.fields.items ++ joined (table_of xs) v.items)) (sym f) so.alike);
  })
