-- The number that an Int stands for is what `parse` reads.
use Rattle.std.proofs.Common.{inl, inr, ◌≡◌, ℕ, ◌<◌, ◌==◌, true, false, List, [], ◌∷◌, length, ℤ, pos, negsuc, neg_ℤ, Some, None, SFits, w32, to_z, of_z, refl}
use Rattle.std.proofs.Common.{ap, sym, ◌∙◌, subst, arith}
use Rattle.std.proofs.lemmas.Bool.{cases_Bool, and_parts, and_from, false≢true, le-leb, leb-true}
use Rattle.std.proofs.lemmas.Int.{to_z-of_z}
use Rattle.std.proofs.lemmas.Bool.Decides.{nat_tests}
use Rattle.std.proofs.lemmas.Str.Parse.{IsNumeralModel, FoldsDigits, tells_all_ascii_digits, numerals_by_fold}
use Rattle.std.specs.Str.{all_ascii_digits}
use Rattle.std.specs.Str.Parse.{IsNumeral, without_leading_sign, signed_digits_value}
use Rattle.std.specs.List.{list_all}
use Rattle.std.specs.Char.{is_ascii_digit}
use Rattle.graphql_spec.specs.Tokens.{is_digits, is_int, digits_value, int_value, fits_int, decoded_int}
use Rattle.juniper_tokens.proofs.Numbers.{digits_all}

pub fits_is : (z : ℤ) → SFits w32 z → fits_int z ≡ true
unfolding fits_int
fits_is (pos k) h = le-leb k 2147483647 (omega (arith, h.sfits))
fits_is (negsuc k) h = rw (le-leb k 2147483647 (omega (arith, h.sfits))) refl

pub fits_from : (z : ℤ) → fits_int z ≡ true → SFits w32 z
unfolding fits_int
fits_from (pos k) h = record { sfits = omega (arith, leb-true k 2147483647 h) }
fits_from (negsuc k) h = record { sfits = omega (arith, leb-true k 2147483647 (and_parts _ _ h).0) }

-- the digits that `parse` reads, and their value
folds : FoldsDigits digits_value
unfolding digits_value
folds = record { empty = λ n. refl; more = λ n c cs k. refl }

model : IsNumeralModel (λ ds. all_ascii_digits ds ≡ true) (digits_value 0)
model = numerals_by_fold (λ ds. all_ascii_digits ds ≡ true) tells_all_ascii_digits digits_value folds

all_same : (w : List ℕ) → list_all is_ascii_digit w ≡ true → all_ascii_digits w ≡ true
all_same [] e = refl
all_same (d ∷ ds) e = let parts = and_parts (is_ascii_digit d) (list_all is_ascii_digit ds) e in and_from (is_ascii_digit d) _ parts.0 (all_same ds parts.1)

digits_some : (w : List ℕ) → is_digits w ≡ true → 0 < length w
unfolding is_digits
digits_some [] e = absurd (false≢true e)
digits_some (d ∷ ds) e = omega arith

numeral : (w : List ℕ) → is_digits w ≡ true → IsNumeral 10 w
numeral w e = (digits_some w e, model.to w (all_same w (digits_all w e)))

value_same : (w : List ℕ) → is_digits w ≡ true → Rattle.std.specs.Str.Parse.digits_value 10 w ≡ digits_value 0 w
value_same w e = sym (model.same w (numeral w e).1)

digit_no_plus : (d : ℕ) → is_ascii_digit d ≡ true → d == 43 ≡ false
digit_no_plus d e = grind (arith, nat_tests)

-- an Int, as `parse` reads it
record IsParsed (w : List ℕ) : Type 0 where
  numeral : IsNumeral 10 (without_leading_sign w)
  value : signed_digits_value 10 w ≡ int_value w

parsed : (w : List ℕ) → is_int w ≡ true → IsParsed w
unfolding is_int int_value
parsed [] e = absurd (false≢true e)
parsed (b ∷ bs) e = elim (cases_Bool (b == 45)) [
  | inl f ↦
      let digits : is_digits bs ≡ true = rw f at e in
      record { numeral = rw f (numeral bs digits); value = rw f (ap (λ n. neg_ℤ (pos n)) (value_same bs digits)) }
  | inr f ↦
      let digits : is_digits (b ∷ bs) ≡ true = rw f at e in
      let plus = digit_no_plus b (and_parts (is_ascii_digit b) _ (digits_all (b ∷ bs) digits)).0 in
      record { numeral = rw (f, plus) (numeral (b ∷ bs) digits); value = rw (f, plus) (ap (λ n. pos n) (value_same (b ∷ bs) digits)) }
]

fit_decoded : (w : List ℕ) → is_int w ≡ true → fits_int (int_value w) ≡ true → decoded_int w ≡ Some (int_value w)
unfolding decoded_int
fit_decoded w e fit = rw (e, fit) refl

unfit_decoded : (w : List ℕ) → is_int w ≡ true → fits_int (int_value w) ≡ false → decoded_int w ≡ None
unfolding decoded_int
unfit_decoded w e unfit = rw (e, unfit) refl

pub no_int_decoded : (w : List ℕ) → is_int w ≡ false → decoded_int w ≡ None
unfolding decoded_int
no_int_decoded w e = rw e refl

-- what `parse` answers at an Int is what it stands for
pub decoded_ok : (w : List ℕ) (i : ℤ) → is_int w ≡ true → SFits w32 (signed_digits_value 10 w) → i ≡ signed_digits_value 10 w →
    decoded_int w ≡ Some (to_z w32 (of_z w32 i))
decoded_ok w i e small is =
    let p = parsed w e in
    let same : i ≡ int_value w = is ∙ p.value in
    let fits : SFits w32 i = subst (SFits w32) (sym is) small in
    fit_decoded w e (fits_is (int_value w) (subst (SFits w32) same fits)) ∙ ap Some (sym (to_z-of_z w32 i fits ∙ same))

pub decoded_err : (w : List ℕ) → is_int w ≡ true → ¬ (IsNumeral 10 (without_leading_sign w) × SFits w32 (signed_digits_value 10 w)) → decoded_int w ≡ None
decoded_err w e h =
    let p = parsed w e in
    elim (cases_Bool (fits_int (int_value w))) [
      | inl fit ↦ absurd (h (p.numeral, subst (SFits w32) (sym p.value) (fits_from (int_value w) fit)))
      | inr unfit ↦ unfit_decoded w e unfit
    ]
