-- Expanded selections of which each two fields can be merged, at every depth, merge as they are written.
use Rattle.std.specs.Prelude.{ℕ, Bool, true, false, not, ◌&&◌, ◌||◌, List, [], ◌∷◌, ◌++◌, ◌≡◌, ◌⊎◌, ◌≤◌, zero, suc, max, IsTrue}
use Rattle.std.specs.List.{list_all}
use Rattle.std.specs.Str.{bytes_eq}
use Rattle.std.proofs.lemmas.Bool.{and_parts, or_left, or_right}
use Rattle.std.proofs.Common.{refl, sym, ap, ◌∙◌, inl, inr, subst, arith}
use Rattle.graphql_spec.specs.Shown.{Name}
use Rattle.graphql_spec.specs.Documents.{Head, written, response_key}
use Rattle.graphql_spec.specs.Selections.{Forest, end, field, under, depth}
use Rattle.graphql_spec.specs.Schema.{Schema}
use Rattle.graphql_spec.specs.Fields.{type_named, is_object, field_of, declared_type}
use Rattle.graphql_spec.specs.Arguments.{written_meaning}
use Rattle.graphql_spec.specs.Overlap.{Field, condition_or, fields, fields_below, MayMerge, Identical, names_object, declares_field}
use Rattle.graphql_spec.specs.Merging.{each_two, same_key, each_pair, same_name, same_arguments, type_at, fields_at, shapes_agree, may_meet, merge}
use Rattle.graphql_spec.specs.Laws.{In}
use Rattle.graphql_spec.proofs.Grouping.{in_append, in_first, in_second}
use Rattle.graphql_spec.proofs.Lists.{same_true, same_refl}
use Rattle.graphql_spec.proofs.SameMeanings.{same_members-true}
use Rattle.graphql_spec.proofs.Expanded.{type_below, IsRight, AreRight}

-- ## Each two of a list

all-in : (test : Field → Bool) (xs : List Field) (x : Field) → list_all test xs ≡ true → In x xs → test x ≡ true
all-in test [] x e i = absurd i
all-in test (z ∷ xs) x e (inl q) = ap test q ∙ (and_parts (test z) (list_all test xs) e).0
all-in test (z ∷ xs) x e (inr i) = all-in test xs x (and_parts (test z) (list_all test xs) e).1 i

each_two-in : (R : Field → Field → Bool) (xs : List Field) → each_two R xs ≡ true → (x y : Field) → In x xs → In y xs →
    (x ≡ y) ⊎ ((R x y ≡ true) ⊎ (R y x ≡ true))
unfolding each_two
each_two-in R [] e x y i j = absurd i
each_two-in R (z ∷ xs) e x y (inl p) (inl q) = inl (p ∙ sym q)
each_two-in R (z ∷ xs) e x y (inl p) (inr j) = inr (inl (ap (λ w. R w y) p ∙ all-in (R z) xs y (and_parts (list_all (R z) xs) (each_two R xs) e).0 j))
each_two-in R (z ∷ xs) e x y (inr i) (inl q) = inr (inr (ap (λ w. R w x) q ∙ all-in (R z) xs x (and_parts (list_all (R z) xs) (each_two R xs) e).0 i))
each_two-in R (z ∷ xs) e x y (inr i) (inr j) = each_two-in R xs (and_parts (list_all (R z) xs) (each_two R xs) e).1 x y i j

past-not : (a b : Bool) → a ≡ true → (not a || b) ≡ true → b ≡ true
past-not a b e o = rw e at o

module _ (s : Schema) where
  -- two fields of one response key are one, or can be merged in one order or the other
  abbrev Pairs : ℕ → List Field → Type 0
  Pairs n xs = (x y : Field) → In x xs → In y xs → response_key x.occurrence.head ≡ response_key y.occurrence.head →
      (x ≡ y) ⊎ ((merge s n x y ≡ true) ⊎ (merge s n y x ≡ true))

  keys-same : (x y : Field) → response_key x.occurrence.head ≡ response_key y.occurrence.head → same_key x y ≡ true
  unfolding same_key
  keys-same x y e = ap (λ z. bytes_eq (response_key x.occurrence.head) z) (sym e) ∙ same_refl (response_key x.occurrence.head)

  pairs-of : (n : ℕ) (xs : List Field) → each_pair (merge s n) xs ≡ true → Pairs n xs
  unfolding each_pair
  pairs-of n xs e x y i j k = elim (each_two-in (λ x y. not (same_key x y) || merge s n x y) xs e x y i j) [
    | inl q ↦ inl q
    | inr (inl q) ↦ inr (inl (past-not (same_key x y) (merge s n x y) (keys-same x y k) q))
    | inr (inr q) ↦ inr (inr (past-not (same_key y x) (merge s n y x) (keys-same y x (sym k)) q))
  ]

  -- ## The fields of right selections

  -- a field is right, with all that it selects
  record RightField (x : Field) : Type 0 where
    own : IsRight s x.parent x.occurrence.head x.occurrence.below
    inside : AreRight s (type_below s x.parent x.occurrence.head.name.item) x.occurrence.below

  -- each field of a list is right, and selects less deep than n
  abbrev RightFields : ℕ → List Field → Type 0
  RightFields n xs = (x : Field) → In x xs → RightField x × (suc (depth x.occurrence.below) ≤ n)

  at_field : (p : Name) (h : Head) (below : Forest) → Field
  at_field p h below = record { parent = p; occurrence = record { head = h; below = below } }

  right-fields : (p : Name) (t : Forest) → AreRight s p t → RightFields (depth t) (fields p t)
  unfolding fields depth
  right-fields p end r x i = absurd i
  right-fields p (field h below rest) r x (inl e) = (
    subst RightField (sym e) (record { own = r.0; inside = r.1.0 }),
    subst (λ z. suc (depth z.occurrence.below) ≤ max (suc (depth below)) (depth rest)) (sym e) (omega arith),
  )
  right-fields p (field h below rest) r x (inr i) = let q = right-fields p rest r.1.1 x i in (q.0, omega (arith, q.1))
  right-fields p (under c below rest) r x i = elim (in_append x (fields (condition_or p c) below) (fields p rest) i) [
    | inl j ↦ let q = right-fields (condition_or p c) below r.0 x j in (q.0, omega (arith, q.1))
    | inr j ↦ let q = right-fields p rest r.1 x j in (q.0, omega (arith, q.1))
  ]

  both-right : (n : ℕ) (xs ys : List Field) → RightFields n xs → RightFields n ys → RightFields n (xs ++ ys)
  both-right n xs ys a b x i = elim (in_append x xs ys i) [ inl j ↦ a x j | inr j ↦ b x j ]

  less-right : (n m : ℕ) (xs : List Field) → n ≤ m → RightFields n xs → RightFields m xs
  less-right n m xs l a x i = let q = a x i in (q.0, omega (arith, l, q.1))

  -- ## Merging

  abbrev Merging : ℕ → List Field → Type 0
  Merging d xs = MayMerge (λ T f. declared_type (field_of s T f)) (names_object s) (declares_field s) d xs

  -- what is selected below a field
  abbrev below_of : Field → List Field
  below_of x = fields_below (λ T f. declared_type (field_of s T f)) (names_object s) (declares_field s) x

  -- fewer fields merge too
  fewer-merge : (d : ℕ) (xs ys : List Field) → ((x : Field) → In x xs → In x ys) → Merging d ys → Merging d xs
  fewer-merge zero xs ys f m = tt
  fewer-merge (suc d) xs ys f m = λ x y i j e p. m x y (f x i) (f y j) e p

  abbrev Meeting : Field → Field → Type 0
  Meeting x y = (x.parent ≡ y.parent) ⊎ ((names_object s x.parent ≡ false) ⊎ (names_object s y.parent ≡ false))

  -- what is said of two fields that may meet
  abbrev AreMerged : ℕ → Field → Field → Type 0
  AreMerged d x y = (x.occurrence.head.name.item ≡ y.occurrence.head.name.item)
      × Identical (written x.occurrence.head.arguments) (written y.occurrence.head.arguments)
      × Merging d (below_of x ++ below_of y)
      × IsTrue (declares_field s x.parent x.occurrence.head.name.item)
      × IsTrue (declares_field s y.parent y.occurrence.head.name.item)

  swapped : {A : Type 0} (x : A) (xs ys : List A) → In x (xs ++ ys) → In x (ys ++ xs)
  swapped x xs ys i = elim (in_append x xs ys i) [ inl j ↦ in_second x ys xs j | inr j ↦ in_first x ys xs j ]

  turned : (d : ℕ) (x y : Field) → AreMerged d y x → AreMerged d x y
  turned d x y (e, a, m, g, h) = (
    sym e,
    record { first_differ = a.second_differ; second_differ = a.first_differ; same = sym a.same },
    fewer-merge d (below_of x ++ below_of y) (below_of y ++ below_of x) (λ z i. swapped z (below_of x) (below_of y) i) m,
    h,
    g,
  )

  meet-turned : (x y : Field) → Meeting x y → Meeting y x
  meet-turned x y (inl e) = inl (sym e)
  meet-turned x y (inr (inl e)) = inr (inr e)
  meet-turned x y (inr (inr e)) = inr (inl e)

  meets : (x y : Field) → Meeting x y → may_meet s x y ≡ true
  unfolding may_meet
  meets x y (inl e) = or_left (bytes_eq x.parent y.parent) _ (ap (λ z. bytes_eq x.parent z) (sym e) ∙ same_refl x.parent)
  meets x y (inr (inl e)) = or_right (bytes_eq x.parent y.parent) _ (or_left (not (is_object (type_named s x.parent))) _ (ap not e))
  meets x y (inr (inr e)) = or_right (bytes_eq x.parent y.parent) _ (or_right (not (is_object (type_named s x.parent))) _ (ap not e))

  -- all lists of right fields, of which each two can be merged, merge to the depth d
  abbrev MergesTo : ℕ → Type 0
  MergesTo d = (n : ℕ) (xs : List Field) → RightFields n xs → Pairs n xs → Merging d xs

  inside-right : (n : ℕ) (x : Field) → RightField x → depth x.occurrence.below ≤ n → RightFields n (below_of x)
  unfolding fields_below
  inside-right n x r l =
      less-right (depth x.occurrence.below) n (below_of x) l (right-fields (type_below s x.parent x.occurrence.head.name.item) x.occurrence.below r.inside)

  -- a field merges with itself
  alone : (d : ℕ) → MergesTo d → (x : Field) → RightField x → AreMerged d x x
  unfolding fields_below
  alone d ih x r = (
    refl,
    record { first_differ = r.own.once; second_differ = r.own.once; same = refl },
    ih (depth x.occurrence.below) (below_of x ++ below_of x)
        (both-right (depth x.occurrence.below) (below_of x) (below_of x) (inside-right (depth x.occurrence.below) x r (omega arith))
        (inside-right (depth x.occurrence.below) x r (omega arith)))
        (λ y z i j. pairs-of (depth x.occurrence.below) (below_of x) r.own.merges y z (once y i) (once z j)),
    r.own.declared,
    r.own.declared,
  )
    where
      once : (y : Field) → In y (below_of x ++ below_of x) → In y (below_of x)
      once y i = elim (in_append y (below_of x) (below_of x) i) [ inl j ↦ j | inr j ↦ j ]

  -- two fields that can be merged do
  together : (d : ℕ) → MergesTo d → (n : ℕ) (x y : Field) → RightField x → RightField y → suc (depth x.occurrence.below) ≤ n →
      suc (depth y.occurrence.below) ≤ n → may_meet s x y ≡ true →
      merge s n x y ≡ true → AreMerged d x y
  unfolding merge same_name same_arguments fields_at type_at fields_below
  together d ih zero x y a b k l p m = absurd (omega (arith, k))
  together d ih (suc n) x y a b k l p m =
      let u = and_parts (shapes_agree s (suc n) x y) _ m in
      let v = past-not (may_meet s x y) _ p u.1 in
      let w = and_parts (same_name x y && same_arguments x y) (each_pair (merge s n) (fields_at s x ++ fields_at s y)) v in
      let z = and_parts (same_name x y) (same_arguments x y) w.0 in (
        same_true x.occurrence.head.name.item y.occurrence.head.name.item z.0,
        record {
          first_differ = a.own.once;
          second_differ = b.own.once;
          same = same_members-true
              (written_meaning (written x.occurrence.head.arguments)) (written_meaning (written y.occurrence.head.arguments)) z.1;
        },
        ih n (below_of x ++ below_of y) (both-right n (below_of x) (below_of y) (inside-right n x a (omega (arith, k))) (inside-right n y b (omega (arith, l))))
            (pairs-of n (below_of x ++ below_of y) w.1),
        a.own.declared,
        b.own.declared,
      )

  merges-to : (d : ℕ) → MergesTo d
  merges-to zero n xs r p = tt
  merges-to (suc d) n xs r p = λ x y i j k m.
      let a = r x i in let b = r y j in
      elim (p x y i j k) [
        | inl e ↦ subst (λ z. AreMerged d x z) e (alone d (merges-to d) x a.0)
        | inr (inl e) ↦ together d (merges-to d) n x y a.0 b.0 a.1 b.1 (meets x y m) e
        | inr (inr e) ↦ turned d x y (together d (merges-to d) n y x b.0 a.0 b.1 a.1 (meets y x (meet-turned x y m)) e)
      ]

  -- selections whose fields are right, and of which each two fields can be merged, merge to every depth
  pub right-merge : (p : Name) (t : Forest) → AreRight s p t → each_pair (merge s (depth t)) (fields p t) ≡ true → (d : ℕ) →
      MayMerge (λ T f. declared_type (field_of s T f)) (names_object s) (declares_field s) d (fields p t)
  right-merge p t r e d = merges-to d (depth t) (fields p t) (right-fields p t r) (pairs-of (depth t) (fields p t) e)
