-- What is written of a String and of an Int is read as it.
use Rattle.std.proofs.Common.{inl, inr, ◌≡◌, ℕ, zero, suc, ◌+◌, ◌-◌, ◌*◌, ◌/◌, ◌%◌, ◌^◌, ◌<◌, ◌==◌, Bool, true, false, not, ◌&&◌, cond, nat_lt, nat_le, [], ◌∷◌}
use Rattle.std.proofs.Common.{◌++◌, length, get_or, ℤ, pos, negsuc, neg_ℤ, Option, Some, None, codes, refl, ap, sym, ◌∙◌, subst, arith}
use Rattle.std.proofs.lemmas.Bool.{cases_Bool, and_parts, and_from, false≢true, leb-true}
use Rattle.std.proofs.lemmas.Bool.Decides.{nat_tests, Decides-eqb}
use Rattle.std.proofs.lemmas.Nat.{div-add-mod'}
use Rattle.std.proofs.lemmas.Str.Parse.{IsNumeralModel, FoldsDigits, tells_all_ascii_digits, numerals_by_fold}
use Rattle.std.proofs.lemmas.Fmt.{decimal_digit, first_decimal, decimal_nonempty, digits_decimal, digits_value-decimal}
use Rattle.std.specs.Fmt.{decimal, signed_decimal}
use Rattle.std.specs.Int.Signed.{mag}
use Rattle.std.specs.Str.{all_ascii_digits}
use Rattle.std.specs.List.{flat_map, list_all}
use Rattle.std.specs.Char.{is_ascii_digit, encode_utf8}
use Rattle.graphql_spec.specs.Shown.{Text}
use Rattle.graphql_spec.specs.Tokens.{Mode, characters, after_backslash, hex_digits, escaped, hex_value, is_surrogate, add_digit, read_byte, is_source_byte}
use Rattle.graphql_spec.specs.Tokens.{before, decode_from, decoded_string, is_digits, is_int, digits_value, int_value, fits_int, decoded_int}
use Rattle.graphql_spec.specs.Display.{hex_digit, written_byte}

-- ## Strings

before_nothing : (o : Option Text) → before [] o ≡ o
unfolding before
before_nothing None = refl
before_nothing (Some t) = refl

-- the word is read as one byte
abbrev IsReadAs : Text → ℕ → Text → Type 0
IsReadAs rest b word = decode_from characters (word ++ rest) ≡ before (b ∷ []) (decode_from characters rest)

either : (P : Text → Type 0) (t : Bool) (w v : Text) → (t ≡ true → P w) → (t ≡ false → P v) → P (cond t w v)
either P true w v f g = f refl
either P false w v f g = g refl

at_byte : (rest word : Text) (b n : ℕ) → (b == n) ≡ true → IsReadAs rest n word → IsReadAs rest b word
at_byte rest word b n e r = subst (λ m. IsReadAs rest m word) (sym ((Decides-eqb b n).0 e)) r

hex_is : (d : ℕ) → d < 16 → hex_value (hex_digit d) ≡ Some d
unfolding hex_value hex_digit
hex_is d small = elim (cases_Bool (nat_lt d 10)) [
  | inl e ↦
      let digit : is_ascii_digit (48 + d) ≡ true = grind (arith, nat_tests) in
      let back : 48 + d - 48 ≡ d = omega arith in
      rw (e, digit, back) refl
  | inr e ↦
      let no_digit : is_ascii_digit (55 + d) ≡ false = grind (arith, nat_tests) in
      let upper : (nat_le 65 (55 + d) && nat_le (55 + d) 70) ≡ true = grind (arith, nat_tests) in
      let back : 55 + d - 55 ≡ d = omega arith in
      rw (e, no_digit, upper, back) refl
]

not_surrogate : (n : ℕ) → n < 32 → is_surrogate n ≡ false
unfolding is_surrogate
not_surrogate n small = grind (arith, nat_tests)

one_byte : (n : ℕ) → n < 32 → encode_utf8 n ≡ n ∷ []
unfolding lib.Utf8.encode
one_byte n small = let low : nat_lt n 128 ≡ true = grind (arith, nat_tests) in rw low refl

-- one byte further
step : (rest : Text) (m : Mode) (b : ℕ) (p : Mode × Text) → read_byte m b ≡ Some p → decode_from m (b ∷ rest) ≡ before p.1 (decode_from p.0 rest)
unfolding decode_from
step rest characters b p e = ap (λ z. elim z as (λ x. Option Text) [ None ↦ None | Some q ↦ before q.1 (decode_from q.0 rest) ]) e
step rest after_backslash b p e = ap (λ z. elim z as (λ x. Option Text) [ None ↦ None | Some q ↦ before q.1 (decode_from q.0 rest) ]) e
step rest (hex_digits k n) b p e = ap (λ z. elim z as (λ x. Option Text) [ None ↦ None | Some q ↦ before q.1 (decode_from q.0 rest) ]) e

-- a hex digit
digit_step : (x d k n : ℕ) → hex_value x ≡ Some d → read_byte (hex_digits k n) x ≡ add_digit k n d
unfolding read_byte
digit_step x d k n e = ap (λ z. elim z as (λ x. Option (Mode × Text)) [ None ↦ None | Some f ↦ add_digit k n f ]) e

few_digits : (k n d : ℕ) → (k == 3) ≡ false → add_digit k n d ≡ Some (hex_digits (k + 1) (n * 16 + d), [])
unfolding add_digit
few_digits k n d few = rw few refl

last_digit : (d n m : ℕ) → n * 16 + d ≡ m → m < 32 → add_digit 3 n d ≡ Some (characters, m ∷ [])
unfolding add_digit
last_digit d n m is small = rw (is, not_surrogate m small, one_byte m small) refl

-- one of the first three hex digits
digit_read : (rest : Text) (x d k n : ℕ) → (k == 3) ≡ false → hex_value x ≡ Some d →
    decode_from (hex_digits k n) (x ∷ rest) ≡ decode_from (hex_digits (k + 1) (n * 16 + d)) rest
digit_read rest x d k n few e =
    let more : add_digit k n d ≡ Some (hex_digits (k + 1) (n * 16 + d), []) = few_digits k n d few in
    step rest (hex_digits k n) x (hex_digits (k + 1) (n * 16 + d), []) (digit_step x d k n e ∙ more)
    ∙ before_nothing (decode_from (hex_digits (k + 1) (n * 16 + d)) rest)

last_digit_read : (rest : Text) (x d n m : ℕ) → hex_value x ≡ Some d → n * 16 + d ≡ m → m < 32 →
    decode_from (hex_digits 3 n) (x ∷ rest) ≡ before (m ∷ []) (decode_from characters rest)
last_digit_read rest x d n m e is small = step rest (hex_digits 3 n) x (characters, m ∷ []) (digit_step x d 3 n e ∙ last_digit d n m is small)

zero_digit : hex_value 48 ≡ Some 0
unfolding hex_value
zero_digit = refl

escape_read : (rest : Text) → decode_from characters (92 ∷ 117 ∷ rest) ≡ decode_from (hex_digits 0 0) rest
unfolding decode_from read_byte
escape_read rest = before_nothing (before [] (decode_from (hex_digits 0 0) rest)) ∙ before_nothing (decode_from (hex_digits 0 0) rest)

hex_read : (rest : Text) (x y d f n : ℕ) → hex_value x ≡ Some d → hex_value y ≡ Some f → (0 * 16 + d) * 16 + f ≡ n → n < 32 →
    IsReadAs rest n (92 ∷ 117 ∷ 48 ∷ 48 ∷ x ∷ y ∷ [])
hex_read rest x y d f n ex ey is small =
    escape_read (48 ∷ 48 ∷ x ∷ y ∷ rest) ∙ (digit_read (48 ∷ x ∷ y ∷ rest) 48 0 0 0 refl zero_digit ∙ (digit_read (x ∷ y ∷ rest) 48 0 1 0 refl zero_digit
    ∙ (digit_read (y ∷ rest) x d 2 0 refl ex ∙ last_digit_read rest y f (0 * 16 + d) n ey is small)))

control_read : (rest : Text) (b : ℕ) → nat_lt b 32 ≡ true → IsReadAs rest b (codes "\\u00" ++ (hex_digit (b / 16) ∷ hex_digit (b % 16) ∷ []))
control_read rest b low =
    let whole : b / 16 * 16 + b % 16 ≡ b = div-add-mod' b 16 in
    let small : b < 32 = grind (arith, nat_tests) in
    hex_read rest (hex_digit (b / 16)) (hex_digit (b % 16)) (b / 16) (b % 16) b (hex_is (b / 16) (omega (arith, whole))) (hex_is (b % 16) (omega arith))
    (omega (arith, whole)) small

above : (b : ℕ) → nat_lt b 32 ≡ false → is_source_byte b ≡ true
unfolding is_source_byte
above b high = grind (arith, nat_tests)

plain_byte : (b : ℕ) → (b == 34) ≡ false → (b == 92) ≡ false → nat_lt b 32 ≡ false → read_byte characters b ≡ Some (characters, b ∷ [])
unfolding read_byte
plain_byte b quote backslash high = let source : is_source_byte b ≡ true = above b high in rw (backslash, source, quote) refl

source_read : (rest : Text) (b : ℕ) → (b == 34) ≡ false → (b == 92) ≡ false → nat_lt b 32 ≡ false → IsReadAs rest b (b ∷ [])
source_read rest b quote backslash high = step rest characters b (characters, b ∷ []) (plain_byte b quote backslash high)

written : (rest : Text) (b : ℕ) → IsReadAs rest b (written_byte b)
unfolding written_byte decode_from read_byte escaped
written rest b =
    let P : Text → Type 0 = IsReadAs rest b in
    let short : (n e : ℕ) → (b == n) ≡ true → IsReadAs rest n (92 ∷ e ∷ []) → P (92 ∷ e ∷ []) = λ n e is r. at_byte rest (92 ∷ e ∷ []) b n is r in
    either P (b == 34) _ _ (λ e. short 34 34 e (before_nothing _)) (λ no_quote.
    either P (b == 92) _ _ (λ e. short 92 92 e (before_nothing _)) (λ no_backslash.
    either P (b == 8) _ _ (λ e. short 8 98 e (before_nothing _)) (λ e8.
    either P (b == 12) _ _ (λ e. short 12 102 e (before_nothing _)) (λ e12.
    either P (b == 10) _ _ (λ e. short 10 110 e (before_nothing _)) (λ e10.
    either P (b == 13) _ _ (λ e. short 13 114 e (before_nothing _)) (λ e13.
    either P (b == 9) _ _ (λ e. short 9 116 e (before_nothing _)) (λ e9.
    either P (nat_lt b 32) _ _ (λ low. control_read rest b low) (λ high. source_read rest b no_quote no_backslash high))))))))

pub string_read : (t : Text) → decoded_string (flat_map written_byte t) ≡ Some t
unfolding decoded_string decode_from before
string_read [] = refl
string_read (b ∷ t) = written (flat_map written_byte t) b ∙ ap (before (b ∷ [])) (string_read t)

-- ## Ints

folds : FoldsDigits digits_value
unfolding digits_value
folds = record { empty = λ n. refl; more = λ n c cs k. refl }

model : IsNumeralModel (λ ds. all_ascii_digits ds ≡ true) (digits_value 0)
model = numerals_by_fold (λ ds. all_ascii_digits ds ≡ true) tells_all_ascii_digits digits_value folds

each_digit : (w : Text) → all_ascii_digits w ≡ true → list_all is_ascii_digit w ≡ true
each_digit [] e = refl
each_digit (d ∷ ds) e = let parts = and_parts (is_ascii_digit d) (all_ascii_digits ds) e in and_from (is_ascii_digit d) _ parts.0 (each_digit ds parts.1)

digits_from : (w : Text) → list_all is_ascii_digit w ≡ true → 0 < length w → (1 < length w → 48 < get_or w 0 0) → is_digits w ≡ true
unfolding is_digits
digits_from [] e some high = absurd (omega (arith, some))
digits_from (d ∷ []) e some high = (and_parts (is_ascii_digit d) true e).0
digits_from (d ∷ c ∷ ds) e some high =
    let parts = and_parts (is_ascii_digit d) (list_all is_ascii_digit (c ∷ ds)) e in
    let above : 48 < d = high (omega arith) in
    let nonzero : (d == 48) ≡ false = grind (arith, nat_tests) in
    rw (parts.0, nonzero, parts.1) refl

first_digit : (n : ℕ) → n < 2 ^ 64 → 1 < length (decimal n) → 48 < get_or (decimal n) 0 0
first_digit zero small long = absurd (omega (arith, long, ap length (decimal_digit 0 (omega arith))))
first_digit (suc n) small long = first_decimal (suc n) (omega arith) small

decimal_is_digits : (n : ℕ) → n < 2 ^ 64 → is_digits (decimal n) ≡ true
decimal_is_digits n small = digits_from (decimal n) (each_digit (decimal n) (digits_decimal model n small)) (decimal_nonempty n small) (first_digit n small)

digits_all : (w : Text) → is_digits w ≡ true → list_all is_ascii_digit w ≡ true
unfolding is_digits
digits_all [] e = absurd (false≢true e)
digits_all (d ∷ []) e = and_from (is_ascii_digit d) true e refl
digits_all (d ∷ c ∷ ds) e =
    let parts = and_parts (is_ascii_digit d && not (d == 48)) (list_all is_ascii_digit (c ∷ ds)) e in
    and_from (is_ascii_digit d) _ (and_parts (is_ascii_digit d) _ parts.0).0 parts.1

no_minus : (d : ℕ) → is_ascii_digit d ≡ true → (d == 45) ≡ false
no_minus d e = grind (arith, nat_tests)

-- digits alone are an Int
unsigned : (w : Text) → is_digits w ≡ true → (is_int w ≡ true) × (int_value w ≡ pos (digits_value 0 w))
unfolding is_digits is_int int_value
unsigned [] e = absurd (false≢true e)
unsigned (d ∷ ds) e = let plain = no_minus d (and_parts (is_ascii_digit d) _ (digits_all (d ∷ ds) e)).0 in (rw (plain, e) refl, rw plain refl)

-- an Int is small, whatever its sign
small_enough : (z : ℤ) → fits_int z ≡ true → mag z < 2147483648
unfolding fits_int
small_enough (pos n) e = omega (arith, leb-true n 2147483647 e)
small_enough (negsuc n) e = omega (arith, leb-true n 2147483647 (and_parts _ _ e).0)

-- what is written of an Int is an Int, with that value
pub int_written : (z : ℤ) → fits_int z ≡ true → (is_int (signed_decimal z) ≡ true) × (int_value (signed_decimal z) ≡ z)
unfolding is_int int_value
int_written (pos n) fits =
    let small : n < 2 ^ 64 = omega (arith, small_enough (pos n) fits) in
    let parts = unsigned (decimal n) (decimal_is_digits n small) in
    (parts.0, parts.1 ∙ ap (λ m. pos m) (digits_value-decimal model n small))
int_written (negsuc n) fits =
    let small : suc n < 2 ^ 64 = omega (arith, small_enough (negsuc n) fits) in
    (decimal_is_digits (suc n) small, ap (λ m. neg_ℤ (pos m)) (digits_value-decimal model (suc n) small))

pub int_read : (z : ℤ) → fits_int z ≡ true → decoded_int (signed_decimal z) ≡ Some z
unfolding decoded_int
int_read z fits = let w = int_written z fits in rw (w.0, w.1, fits) refl
