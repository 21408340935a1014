-- Sums that are Ints.
use Rattle.std.proofs.Common.{◌≡◌, ℤ, pos, negsuc, ◌+ℤ◌, true, Some, None, refl, sym, ap, ◌∙◌, subst, inl, inr, SFits, w32, to_z, of_z, arith}
use Rattle.std.proofs.lemmas.Bool.{cases_Bool, and_parts, le-leb, leb-true}
use Rattle.std.proofs.lemmas.Int.{to_z-of_z}
use Rattle.graphql_spec.specs.Tokens.{fits_int}
use Rattle.juniper_values.specs.Answered.{int_sum}

fits_is : (z : ℤ) → SFits w32 z → fits_int z ≡ true
unfolding fits_int
fits_is (pos k) h = le-leb k 2147483647 (omega (arith, h.sfits))
fits_is (negsuc k) h = rw (le-leb k 2147483647 (omega (arith, h.sfits))) refl

fits_from : (z : ℤ) → fits_int z ≡ true → SFits w32 z
unfolding fits_int
fits_from (pos k) h = record { sfits = omega (arith, leb-true k 2147483647 h) }
fits_from (negsuc k) h = record { sfits = omega (arith, leb-true k 2147483647 (and_parts _ _ h).0) }

-- a sum that fits
pub some_sum : (a b s : ℤ) → SFits w32 a → SFits w32 b → SFits w32 (to_z w32 (of_z w32 a) +ℤ to_z w32 (of_z w32 b)) →
    s ≡ to_z w32 (of_z w32 a) +ℤ to_z w32 (of_z w32 b) → Some (to_z w32 (of_z w32 s)) ≡ int_sum a b
some_sum a b s fa fb fits is =
    let e = to_z-of_z w32 a fa in
    let f = to_z-of_z w32 b fb in
    let fit : SFits w32 (a +ℤ b) = subst (λ y. SFits w32 (a +ℤ y)) f (subst (λ x. SFits w32 (x +ℤ to_z w32 (of_z w32 b))) e fits) in
    let sum : s ≡ a +ℤ b = is ∙ (ap (λ x. x +ℤ to_z w32 (of_z w32 b)) e ∙ ap (λ y. a +ℤ y) f) in
    let back : to_z w32 (of_z w32 s) ≡ a +ℤ b = to_z-of_z w32 s (subst (SFits w32) (sym sum) fit) ∙ sum in
    ap Some back ∙ rw (fits_is (a +ℤ b) fit) refl

-- one that does not
pub no_sum : (a b : ℤ) → SFits w32 a → SFits w32 b → (SFits w32 (to_z w32 (of_z w32 a) +ℤ to_z w32 (of_z w32 b)) → ⊥) → None ≡ int_sum a b
no_sum a b fa fb over = elim (cases_Bool (fits_int (a +ℤ b))) [
  | inl t ↦ absurd (over (subst (λ x. SFits w32 (x +ℤ to_z w32 (of_z w32 b))) (sym (to_z-of_z w32 a fa))
      (subst (λ y. SFits w32 (a +ℤ y)) (sym (to_z-of_z w32 b fb)) (fits_from (a +ℤ b) t))))
  | inr t ↦ rw t refl
]
