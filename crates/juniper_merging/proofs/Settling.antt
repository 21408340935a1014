-- Looking deeper than selections lie changes nothing, and what merges to a depth merges to each smaller one (5.3.2).
use Rattle.std.specs.Prelude.{ℕ, zero, suc, Bool, true, false, not, ◌&&◌, ◌||◌, List, [], ◌∷◌, ◌++◌, ◌≡◌, ◌≤◌, max}
use Rattle.std.specs.List.{list_all}
use Rattle.std.proofs.lemmas.Bool.{and_parts}
use Rattle.std.proofs.Common.{refl, sym, inl, inr, subst, arith}
use Rattle.graphql_spec.specs.Shown.{Name}
use Rattle.graphql_spec.specs.Types.{innermost}
use Rattle.graphql_spec.specs.Selections.{Forest, end, field, under, depth}
use Rattle.graphql_spec.specs.Schema.{Schema}
use Rattle.graphql_spec.specs.Overlap.{Field, condition_or, fields}
use Rattle.graphql_spec.specs.Laws.{In}
use Rattle.graphql_spec.specs.Merging.{each_pair, each_two, same_key, same_name, same_arguments, type_at, fields_at, types_agree, shapes_agree, may_meet, merge}
use Rattle.graphql_spec.proofs.Grouping.{in_append}

-- ## Pairs of a list

and-both : (a b : Bool) → a ≡ true → b ≡ true → (a && b) ≡ true
and-both a b p q = rw (p, q) refl

all-from : {A : Type 0} (f g : A → Bool) (xs : List A) → ((x : A) → In x xs → f x ≡ true → g x ≡ true) → list_all f xs ≡ true → list_all g xs ≡ true
all-from f g [] h e = refl
all-from f g (x ∷ xs) h e =
    let p = and_parts (f x) (list_all f xs) e in
    and-both (g x) (list_all g xs) (h x (inl refl) p.0) (all-from f g xs (λ y i. h y (inr i)) p.1)

two-from-two : {A : Type 0} (R Q : A → A → Bool) (xs : List A) → ((x y : A) → In x xs → In y xs → R x y ≡ true → Q x y ≡ true) → each_two R xs ≡ true →
    each_two Q xs ≡ true
unfolding each_two
two-from-two R Q [] h e = refl
two-from-two R Q (x ∷ xs) h e =
    let p = and_parts (list_all (R x) xs) (each_two R xs) e in
    and-both (list_all (Q x) xs) (each_two Q xs) (all-from (R x) (Q x) xs (λ y i. h x y (inl refl) (inr i)) p.0)
    (two-from-two R Q xs (λ y z i j. h y z (inr i) (inr j)) p.1)

keyed-from : (k a b : Bool) → (a ≡ true → b ≡ true) → (not k || a) ≡ true → (not k || b) ≡ true
keyed-from true a b h e = h e
keyed-from false a b h e = refl

-- what holds of pairs, where it follows from what held of them
pairs-from : (R Q : Field → Field → Bool) (xs : List Field) → ((x y : Field) → In x xs → In y xs → R x y ≡ true → Q x y ≡ true) → each_pair R xs ≡ true →
    each_pair Q xs ≡ true
unfolding each_pair
pairs-from R Q xs h =
    two-from-two (λ x y. not (same_key x y) || R x y) (λ x y. not (same_key x y) || Q x y) xs (λ x y i j. keyed-from (same_key x y) (R x y) (Q x y) (h x y i j))

-- ## Depths

abbrev Shallow : ℕ → List Field → Type 0
Shallow d xs = (x : Field) → In x xs → suc (depth x.occurrence.below) ≤ d

shallow-fields : (p : Name) (t : Forest) → Shallow (depth t) (fields p t)
unfolding fields depth
shallow-fields p end x i = absurd i
shallow-fields p (field h below rest) x (inl e) = subst (λ z. suc (depth z.occurrence.below) ≤ max (suc (depth below)) (depth rest)) (sym e) (omega arith)
shallow-fields p (field h below rest) x (inr i) = let q = shallow-fields p rest x i in omega (arith, q)
shallow-fields p (under c below rest) x i = elim (in_append x (fields (condition_or p c) below) (fields p rest) i) [
  | inl j ↦ let q = shallow-fields (condition_or p c) below x j in omega (arith, q)
  | inr j ↦ let q = shallow-fields p rest x j in omega (arith, q)
]

shallow-none : (xs : List Field) → Shallow 0 xs → xs ≡ []
shallow-none [] f = refl
shallow-none (x ∷ xs) f = let r : suc (depth x.occurrence.below) ≤ 0 = f x (inl refl) in absurd (omega (arith, r))

module _ (s : Schema) where
  shallow-both : (n : ℕ) (x y : Field) → depth x.occurrence.below ≤ n → depth y.occurrence.below ≤ n → Shallow n (fields_at s x ++ fields_at s y)
  unfolding fields_at
  shallow-both n x y k l z i = elim (in_append z (fields_at s x) (fields_at s y) i) [
    | inl j ↦ let q = shallow-fields (innermost (type_at s x)) x.occurrence.below z j in omega (arith, k, q)
    | inr j ↦ let q = shallow-fields (innermost (type_at s y)) y.occurrence.below z j in omega (arith, l, q)
  ]

  none-below : (x y : Field) → depth x.occurrence.below ≤ 0 → depth y.occurrence.below ≤ 0 → (R : Field → Field → Bool) →
      each_pair R (fields_at s x ++ fields_at s y) ≡ true
  unfolding each_pair each_two
  none-below x y k l R = rw (shallow-none (fields_at s x ++ fields_at s y) (shallow-both 0 x y k l)) refl

  -- ## What merges to a depth merges to each smaller one

  pub shapes-less : (n m : ℕ) → n ≤ m → (x y : Field) → shapes_agree s m x y ≡ true → shapes_agree s n x y ≡ true
  unfolding shapes_agree
  shapes-less zero zero l x y e = e
  shapes-less zero (suc m) l x y e = (and_parts (types_agree s (type_at s x) (type_at s y)) (each_pair (shapes_agree s m) (fields_at s x ++ fields_at s y)) e).0
  shapes-less (suc n) zero l x y e = absurd (omega (arith, l))
  shapes-less (suc n) (suc m) l x y e =
      let F = fields_at s x ++ fields_at s y in
      let p = and_parts (types_agree s (type_at s x) (type_at s y)) (each_pair (shapes_agree s m) F) e in
      and-both (types_agree s (type_at s x) (type_at s y)) (each_pair (shapes_agree s n) F) p.0
      (pairs-from (shapes_agree s m) (shapes_agree s n) F (λ z w i j. shapes-less n m (omega (arith, l)) z w) p.1)

  inside-less : (m c a b : Bool) → (a ≡ true → b ≡ true) → (not m || (c && a)) ≡ true → (not m || (c && b)) ≡ true
  inside-less true true a b h e = h e
  inside-less true false a b h e = e
  inside-less false c a b h e = refl

  inside-none : (m c a : Bool) → (not m || (c && a)) ≡ true → (not m || c) ≡ true
  inside-none true true a e = refl
  inside-none true false a e = e
  inside-none false c a e = refl

  pub merge-less : (n m : ℕ) → n ≤ m → (x y : Field) → merge s m x y ≡ true → merge s n x y ≡ true
  unfolding merge
  merge-less zero zero l x y e = e
  merge-less zero (suc m) l x y e =
      let F = fields_at s x ++ fields_at s y in
      let C = same_name x y && same_arguments x y in
      let p = and_parts (shapes_agree s (suc m) x y) (not (may_meet s x y) || (C && each_pair (merge s m) F)) e in
      and-both (shapes_agree s zero x y) (not (may_meet s x y) || C) (shapes-less zero (suc m) l x y p.0)
      (inside-none (may_meet s x y) C (each_pair (merge s m) F) p.1)
  merge-less (suc n) zero l x y e = absurd (omega (arith, l))
  merge-less (suc n) (suc m) l x y e =
      let F = fields_at s x ++ fields_at s y in
      let C = same_name x y && same_arguments x y in
      let p = and_parts (shapes_agree s (suc m) x y) (not (may_meet s x y) || (C && each_pair (merge s m) F)) e in
      and-both (shapes_agree s (suc n) x y) (not (may_meet s x y) || (C && each_pair (merge s n) F)) (shapes-less (suc n) (suc m) l x y p.0)
      (inside-less (may_meet s x y) C (each_pair (merge s m) F) (each_pair (merge s n) F)
      (pairs-from (merge s m) (merge s n) F (λ z w i j. merge-less n m (omega (arith, l)) z w)) p.1)

  -- ## From the depth of what lies below on nothing changes

  shapes-more : (n m : ℕ) (x y : Field) → depth x.occurrence.below ≤ n → depth y.occurrence.below ≤ n → shapes_agree s n x y ≡ true →
      shapes_agree s m x y ≡ true
  unfolding shapes_agree
  shapes-more zero zero x y k l e = e
  shapes-more zero (suc m) x y k l e = and-both (types_agree s (type_at s x) (type_at s y)) (each_pair (shapes_agree s m) (fields_at s x ++ fields_at s y)) e
      (none-below x y k l (shapes_agree s m))
  shapes-more (suc n) zero x y k l e =
      (and_parts (types_agree s (type_at s x) (type_at s y)) (each_pair (shapes_agree s n) (fields_at s x ++ fields_at s y)) e).0
  shapes-more (suc n) (suc m) x y k l e =
      let F = fields_at s x ++ fields_at s y in
      let p = and_parts (types_agree s (type_at s x) (type_at s y)) (each_pair (shapes_agree s n) F) e in
      let f = shallow-both (suc n) x y k l in
      and-both (types_agree s (type_at s x) (type_at s y)) (each_pair (shapes_agree s m) F) p.0
      (pairs-from (shapes_agree s n) (shapes_agree s m) F (λ z w i j. let a = f z i in let b = f w j in
      shapes-more n m z w (omega (arith, a)) (omega (arith, b))) p.1)

  inside-full : (m c a : Bool) → a ≡ true → (not m || c) ≡ true → (not m || (c && a)) ≡ true
  inside-full true true a h e = h
  inside-full true false a h e = e
  inside-full false c a h e = refl

  merge-more : (n m : ℕ) (x y : Field) → depth x.occurrence.below ≤ n → depth y.occurrence.below ≤ n → merge s n x y ≡ true → merge s m x y ≡ true
  unfolding merge
  merge-more zero zero x y k l e = e
  merge-more zero (suc m) x y k l e =
      let F = fields_at s x ++ fields_at s y in
      let C = same_name x y && same_arguments x y in
      let p = and_parts (shapes_agree s zero x y) (not (may_meet s x y) || C) e in
      and-both (shapes_agree s (suc m) x y) (not (may_meet s x y) || (C && each_pair (merge s m) F)) (shapes-more zero (suc m) x y k l p.0)
      (inside-full (may_meet s x y) C (each_pair (merge s m) F) (none-below x y k l (merge s m)) p.1)
  merge-more (suc n) zero x y k l e = merge-less zero (suc n) (omega arith) x y e
  merge-more (suc n) (suc m) x y k l e =
      let F = fields_at s x ++ fields_at s y in
      let C = same_name x y && same_arguments x y in
      let p = and_parts (shapes_agree s (suc n) x y) (not (may_meet s x y) || (C && each_pair (merge s n) F)) e in
      let f = shallow-both (suc n) x y k l in
      and-both (shapes_agree s (suc m) x y) (not (may_meet s x y) || (C && each_pair (merge s m) F)) (shapes-more (suc n) (suc m) x y k l p.0)
      (inside-less (may_meet s x y) C (each_pair (merge s n) F) (each_pair (merge s m) F)
      (pairs-from (merge s n) (merge s m) F (λ z w i j. let a = f z i in let b = f w j in merge-more n m z w (omega (arith, a)) (omega (arith, b)))) p.1)

  -- a set that merges to its own depth merges to every depth
  pub settled : (p : Name) (t : Forest) → each_pair (merge s (depth t)) (fields p t) ≡ true → (n : ℕ) → each_pair (merge s n) (fields p t) ≡ true
  settled p t e n =
      let f = shallow-fields p t in
      pairs-from (merge s (depth t)) (merge s n) (fields p t) (λ z w i j. let a = f z i in let b = f w j in
      merge-more (depth t) n z w (omega (arith, a)) (omega (arith, b))) e
