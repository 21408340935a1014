-- Ints by their characters.
use Rattle.std.proofs.Common.{inl, inr, ◌≡◌, ◌≢◌, ℕ, ◌≤◌, ◌==◌, Bool, true, false, not, ◌&&◌, List, [], ◌∷◌, ◌++◌, length, take, drop, refl, ap, ◌∙◌, arith}
use Rattle.std.proofs.lemmas.Bool.{cases_Bool, and_parts, and_from, false≢true, not-true}
use Rattle.std.proofs.lemmas.Bool.Decides.{nat_tests}
use Rattle.std.proofs.lemmas.List.Sums.{prefix_len-le-length}
use Rattle.std.proofs.Math.Seq.{take-append_seam, drop-append_seam}
use Rattle.std.specs.List.{list_all}
use Rattle.std.specs.Char.{is_ascii_digit}
use Rattle.graphql_spec.specs.Tokens.{is_digits, is_int, starts_name, continues_name, continues_int, ends_before}
use Rattle.juniper_tokens.specs.Lexing.{number_len, int_len, starts_int}
use Rattle.juniper_tokens.proofs.Bytes.{run_exact}

pub no_digits : (w : List ℕ) → length w ≡ 0 → false ≡ is_digits w
unfolding is_digits
no_digits [] e = refl
no_digits (d ∷ ds) e = absurd (omega (arith, e))

pub one_digit : (d : ℕ) (ds : List ℕ) → length ds ≡ 0 → is_digits (d ∷ ds) ≡ is_ascii_digit d
unfolding is_digits
one_digit d [] e = refl
one_digit d (c ∷ ds) e = absurd (omega (arith, e))

and_turn : (p q r : Bool) → ((p && q) && r) ≡ (q && (p && r))
and_turn true true r = refl
and_turn true false r = refl
and_turn false true r = refl
and_turn false false r = refl

pub more_digits : (d : ℕ) (ds : List ℕ) → length ds ≢ 0 → is_digits (d ∷ ds) ≡ (not (d == 48) && list_all is_ascii_digit (d ∷ ds))
unfolding is_digits
more_digits d [] some = absurd (some refl)
more_digits d (c ∷ ds) some = and_turn (is_ascii_digit d) (not (d == 48)) (list_all is_ascii_digit (c ∷ ds))

-- ---- Ints at the front of a text

pub digits_all : (w : List ℕ) → is_digits w ≡ true → list_all is_ascii_digit w ≡ true
unfolding is_digits
digits_all [] e = absurd (false≢true e)
digits_all (d ∷ []) e = and_from (is_ascii_digit d) true e refl
digits_all (d ∷ c ∷ ds) e =
    let parts = and_parts (is_ascii_digit d && not (d == 48)) (list_all is_ascii_digit (c ∷ ds)) e in
    and_from (is_ascii_digit d) _ (and_parts (is_ascii_digit d) _ parts.0).0 parts.1

pub int_starts : (b : ℕ) (bs : List ℕ) → is_int (b ∷ bs) ≡ true → starts_int b ≡ true
unfolding is_int starts_int
int_starts b bs e = elim (cases_Bool (b == 45)) [
  | inl f ↦ rw f refl
  | inr f ↦
      let whole : is_digits (b ∷ bs) ≡ true = rw f at e in
      rw f ((and_parts (is_ascii_digit b) _ (digits_all (b ∷ bs) whole)).0)
]

-- what ends an Int is no digit
no_more : (b : ℕ) → continues_int b ≡ false → is_ascii_digit b ≡ false
unfolding continues_int continues_name starts_name
no_more b e = grind (arith, nat_tests)

digits_end : (rest : List ℕ) → ends_before continues_int rest ≡ true → ends_before is_ascii_digit rest ≡ true
unfolding ends_before
digits_end [] e = refl
digits_end (b ∷ rest) e = rw (no_more b (not-true (continues_int b) e)) refl

number_exact : (w rest : List ℕ) → is_int w ≡ true → ends_before continues_int rest ≡ true → number_len (w ++ rest) ≡ length w
unfolding is_int number_len
number_exact [] rest e ends = absurd (false≢true e)
number_exact (b ∷ bs) rest e ends = elim (cases_Bool (b == 45)) [
  | inl f ↦
      let whole : is_digits bs ≡ true = rw f at e in
      let run = run_exact is_ascii_digit bs rest (digits_all bs whole) (digits_end rest ends) in
      rw (f, run) (omega arith)
  | inr f ↦
      let whole : is_digits (b ∷ bs) ≡ true = rw f at e in
      rw f (run_exact is_ascii_digit (b ∷ bs) rest (digits_all (b ∷ bs) whole) (digits_end rest ends))
]

pub int_exact : (w rest : List ℕ) → is_int w ≡ true → ends_before continues_int rest ≡ true → int_len (w ++ rest) ≡ length w
unfolding int_len
int_exact w rest e ends = rw (number_exact w rest e ends, take-append_seam w rest, drop-append_seam w rest, e, ends) refl

pub number_within : (bs : List ℕ) → number_len bs ≤ length bs
unfolding number_len
number_within [] = omega arith
number_within (b ∷ bs) = elim (cases_Bool (b == 45)) [
  | inl e ↦ rw e (omega (arith, prefix_len-le-length is_ascii_digit bs))
  | inr e ↦ rw e (prefix_len-le-length is_ascii_digit (b ∷ bs))
]

pub int_taken : (bs : List ℕ) (n : ℕ) → n ≡ int_len bs → n ≢ 0 →
    (n ≡ number_len bs) × (is_int (take n bs) ≡ true) × (ends_before continues_int (drop n bs) ≡ true)
unfolding int_len
int_taken bs n is some = elim (cases_Bool (is_int (take (number_len bs) bs) && ends_before continues_int (drop (number_len bs) bs))) [
  | inl e ↦
      let count : n ≡ number_len bs = is ∙ rw e refl in
      let parts = and_parts (is_int (take (number_len bs) bs)) _ e in
      (count, ap (λ k. is_int (take k bs)) count ∙ parts.0, ap (λ k. ends_before continues_int (drop k bs)) count ∙ parts.1)
  | inr e ↦ absurd (some (is ∙ rw e refl))
]
