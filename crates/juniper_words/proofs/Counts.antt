-- Numbers that are Ints (3.5.1).
use Rattle.std.proofs.Common.{◌≡◌, ℕ, ℤ, pos, true, codes, refl, inl, inr, SFits, w32, to_z, of_z, arith}
use Rattle.std.proofs.lemmas.Bool.{cases_Bool, le-leb, leb-true}
use Rattle.std.proofs.lemmas.Int.{to_z-of_z}
use Rattle.graphql_spec.specs.Tokens.{fits_int}
use Rattle.juniper_values.specs.Answered.{fails_with, int_reply}
use Rattle.juniper_words.specs.Replies.{count_reply}

fits_is : (n : ℕ) → SFits w32 (pos n) → fits_int (pos n) ≡ true
unfolding fits_int
fits_is n h = le-leb n 2147483647 (omega (arith, h.sfits))

fits_from : (n : ℕ) → fits_int (pos n) ≡ true → SFits w32 (pos n)
unfolding fits_int
fits_from n h = record { sfits = omega (arith, leb-true n 2147483647 h) }

-- a number that fits is answered
pub counted : {N : Type 0} (n : ℕ) (z : ℤ) → SFits w32 (pos n) → z ≡ pos n → int_reply {N = N} (to_z w32 (of_z w32 z)) ≡ count_reply {N = N} n
counted n z fits is = rw (is, to_z-of_z w32 (pos n) fits, fits_is n fits) refl

-- one that does not is refused
pub too_many : {N : Type 0} (n : ℕ) → (SFits w32 (pos n) → ⊥) → fails_with {N = N} (codes "The number is no Int") ≡ count_reply {N = N} n
too_many n over = elim (cases_Bool (fits_int (pos n))) [
  | inl t ↦ absurd (over (fits_from n t))
  | inr f ↦ rw f refl
]
