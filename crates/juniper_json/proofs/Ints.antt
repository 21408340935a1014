-- Integers that are Ints.
use Rattle.std.proofs.Common.{◌≡◌, ℤ, Option, Result, Ok, Err, refl, ◌∙◌, subst, inl, inr, SFits, w32, w64, to_z, of_z}
use Rattle.std.specs.Result.{OkIff, result_ok}
use Rattle.std.proofs.lemmas.Bool.{cases_Bool}
use Rattle.std.proofs.lemmas.Int.{to_z-of_z}
use Rattle.graphql_spec.specs.Tokens.{fits_int}
use Rattle.juniper_tokens.proofs.Decoding.{fits_is, fits_from}
use Rattle.juniper_json.specs.Given.{as_int}

narrowed : {E : Type 0} (z : ℤ) (r : Result ℤ E) → OkIff r (SFits w32 z) z → result_ok r ≡ as_int z
narrowed z (Ok x) h = rw (fits_is z h.0, h.1) refl
narrowed z (Err e) over = elim (cases_Bool (fits_int z)) [
  | inl t ↦ absurd (over (fits_from z t))
  | inr t ↦ rw t refl
]

-- what a conversion to 32 bits answers
pub narrow : {E : Type 0} (z : ℤ) (r : Result ℤ E) (o : Option ℤ) → SFits w64 z → OkIff r (SFits w32 (to_z w64 (of_z w64 z))) (to_z w64 (of_z w64 z)) →
    o ≡ result_ok r → o ≡ as_int z
narrow z r o fits h e = e ∙ narrowed z r (subst (λ y. OkIff r (SFits w32 y) y) (to_z-of_z w64 z fits) h)
