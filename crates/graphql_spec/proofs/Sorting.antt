-- A list of errors can be sorted.
use Rattle.std.proofs.Common.{◌≡◌, ◌+◌, Bool, true, false, cond, IsTrue, List, [], ◌∷◌, refl, sym, ap, ◌∙◌, inl, inr, arith}
use Rattle.std.proofs.lemmas.Bool.{cases_Bool, and_parts, and_from}
use Rattle.std.specs.Ordering.{ordering_reverse}
use Rattle.std.specs.declared.cmp.Ordering.{Ordering}
use Rattle.std.specs.declared.cmp.Ordering.TheVariants.{Less, Equal, Greater}
use Rattle.graphql_spec.specs.Errors.{Listed, compare, not_greater, is_least, is_sorted}
use Rattle.graphql_spec.specs.Walk.{count_listed}
use Rattle.graphql_spec.proofs.ErrorOrder.{compare_total}

abbrev upto : Listed → Listed → Type 0
upto x y = not_greater (compare x y) ≡ true

upto-trans : (x y z : Listed) → upto x y → upto y z → upto x z
unfolding not_greater
upto-trans x y z a b = go (compare x y) (compare y z) refl refl
  where
    less : (o : Ordering) → o ≡ Less → not_greater o ≡ true
    less o e = ap not_greater e

    go : (o r : Ordering) → compare x y ≡ o → compare y z ≡ r → upto x z
    go Equal r e f = ap not_greater (compare_total.congr x y z e) ∙ b
    go Less Less e f = less (compare x z) (compare_total.trans x y z e f)
    go Less Equal e f =
        let back : compare y x ≡ Greater = compare_total.antisymm y x ∙ ap ordering_reverse e in
        less (compare x z) (compare_total.antisymm x z ∙ ap ordering_reverse (sym (compare_total.congr y z x f) ∙ back))
    go Less Greater e f = let w : not_greater Greater ≡ true = ap not_greater (sym f) ∙ b in cc
    go Greater r e f = let w : not_greater Greater ≡ true = ap not_greater (sym e) ∙ a in cc

turned : (x y : Listed) → not_greater (compare x y) ≡ false → upto y x
unfolding not_greater
turned x y e = go (compare x y) refl
  where
    go : (o : Ordering) → compare x y ≡ o → upto y x
    go Less f = let w : not_greater Less ≡ false = ap not_greater (sym f) ∙ e in cc
    go Equal f = let w : not_greater Equal ≡ false = ap not_greater (sym f) ∙ e in cc
    go Greater f = ap not_greater (compare_total.antisymm y x ∙ ap ordering_reverse f)

unfoldable pub insert : Listed → List Listed → List Listed
insert x [] = x ∷ []
insert x (y ∷ ys) = cond (not_greater (compare x y)) (x ∷ y ∷ ys) (y ∷ insert x ys)

unfoldable pub sort : List Listed → List Listed
sort [] = []
sort (x ∷ xs) = insert x (sort xs)

least-trans : (x y : Listed) (ys : List Listed) → upto x y → is_least y ys ≡ true → is_least x ys ≡ true
unfolding is_least
least-trans x y [] a b = refl
least-trans x y (z ∷ ys) a b = let p = and_parts (not_greater (compare y z)) (is_least y ys) b in
    and_from (not_greater (compare x z)) (is_least x ys) (upto-trans x y z a p.0) (least-trans x y ys a p.1)

least-insert : (y x : Listed) (ys : List Listed) → upto y x → is_least y ys ≡ true → is_least y (insert x ys) ≡ true
unfolding is_least insert
least-insert y x [] a b = rw a refl
least-insert y x (z ∷ ys) a b = let p = and_parts (not_greater (compare y z)) (is_least y ys) b in elim (cases_Bool (not_greater (compare x z))) [
  | inl q ↦ rw (q, a, p.0, p.1) refl
  | inr q ↦ rw (q, p.0, least-insert y x ys a p.1) refl
]

sorted-insert : (x : Listed) (ys : List Listed) → is_sorted ys ≡ true → is_sorted (insert x ys) ≡ true
unfolding is_sorted insert is_least
sorted-insert x [] s = refl
sorted-insert x (y ∷ ys) s = let p = and_parts (is_least y ys) (is_sorted ys) s in elim (cases_Bool (not_greater (compare x y))) [
  | inl q ↦ rw (q, q, least-trans x y ys q p.0, p.0, p.1) refl
  | inr q ↦ rw (q, least-insert y x ys (turned x y q) p.0, sorted-insert x ys p.1) refl
]

pub sorted : (xs : List Listed) → IsTrue (is_sorted (sort xs))
unfolding is_sorted sort
sorted [] = refl
sorted (x ∷ xs) = sorted-insert x (sort xs) (sorted xs)

count-insert : (p : Listed → Bool) (x : Listed) (ys : List Listed) → count_listed p (insert x ys) ≡ cond (p x) 1 0 + count_listed p ys
unfolding count_listed insert
count-insert p x [] = refl
count-insert p x (y ∷ ys) = let r = count-insert p x ys in elim (cases_Bool (not_greater (compare x y))) [
  | inl q ↦ rw q refl
  | inr q ↦ rw q
      (omega (arith, r))
]

pub same-counts : (xs : List Listed) (p : Listed → Bool) → count_listed p (sort xs) ≡ count_listed p xs
unfolding count_listed sort
same-counts [] p = refl
same-counts (x ∷ xs) p = let r = same-counts xs p in let s = count-insert p x (sort xs) in omega (arith, r, s)
