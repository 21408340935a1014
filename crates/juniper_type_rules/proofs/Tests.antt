-- Tests of lists and options.
use Rattle.std.proofs.Common.{◌≡◌, ◌==◌, ℕ, length, map, Bool, true, false, not, ◌&&◌, ◌||◌, List, [], ◌∷◌, Option, Some, None}
use Rattle.std.proofs.Common.{option_map, is_some, refl, sym, ap, ◌∙◌, arith}
use Rattle.std.specs.List.{list_any, list_all}
use Rattle.std.proofs.lemmas.Bool.{both_ways, eqb-true}

pub some-map : {A B : Type 0} (f : A → B) (o : Option A) → is_some (option_map f o) ≡ is_some o
some-map f None = refl
some-map f (Some x) = refl

not-both : (a b : Bool) → not (a && b) ≡ (not a || not b)
not-both true b = refl
not-both false b = refl

-- where not all pass, one fails
pub one-fails : {A : Type 0} (test : A → Bool) (xs : List A) → not (list_all test xs) ≡ list_any (λ x. not (test x)) xs
one-fails test [] = refl
one-fails test (x ∷ xs) = not-both (test x) (list_all test xs) ∙ ap (λ b. not (test x) || b) (one-fails test xs)

-- where no item passes every test, none passes any
pub none-pass : {A : Type 0} (xs : List A) (test : A → Bool) → list_any (λ x. true) xs ≡ false → list_any test xs ≡ false
none-pass [] test e = refl
none-pass (x ∷ xs) test e = absurd (both_ways true e refl)

-- where neither passes, the first does not, and the second does not
pub neither-passes : (a b : Bool) → (a || b) ≡ false → (a ≡ false) × (b ≡ false)
neither-passes true b e = absurd (both_ways true e refl)
neither-passes false b e = (refl, e)

-- an item passes every test, where there is one
pub some-pass : {A B : Type 0} (view : A → B) (xs : List A) (n : ℕ) (b : Bool) → n ≡ length xs → b ≡ (n == 0) → not b ≡ list_any (λ x. true) (map view xs)
some-pass view [] n b is e = ap not (e ∙ ap (λ m. m == 0) is)
some-pass view (x ∷ xs) n true is e = absurd (omega (arith, eqb-true n 0 (sym e)))
some-pass view (x ∷ xs) n false is e = refl

pub first-of : (a b : Bool) → a ≡ true → a ≡ (a || b)
first-of true b e = refl
first-of false b e = absurd (both_ways false refl e)

pub second-of : (a b : Bool) → a ≡ false → b ≡ (a || b)
second-of true b e = absurd (both_ways true e refl)
second-of false b e = refl

pub not-so : (b : Bool) → not b ≡ true → b ≡ false
not-so true e = absurd (both_ways false refl e)
not-so false e = refl
