-- What an escape stands for, by the bytes that stand there.
use Rattle.std.proofs.Common.{inl, inr, ◌≡◌, ◌≢◌, ℕ, suc, ◌+◌, ◌-◌, ◌<◌, ◌≤◌, false, List, [], ◌∷◌, length, take, drop, get_or, Option, Some, None, option_map}
use Rattle.std.proofs.Common.{refl, ap, sym, ◌∙◌, arith, add-one}
use Rattle.std.proofs.lemmas.List.{take_all, length-drop}
use Rattle.std.proofs.lemmas.Bool.{cases_Bool, ne_eqb}
use Rattle.std.proofs.lemmas.Str.{IsCharBoundary-from_drop}
use Rattle.std.specs.Str.{IsUtf8, IsCharBoundary}
use Rattle.std.proofs.lemmas.Bool.Decides.{nat_tests}
use Rattle.std.specs.Option.{SomeIff}
use Rattle.std.specs.Char.{encode_utf8, IsScalar}
use Rattle.graphql_spec.specs.Shown.{Text}
use Rattle.graphql_spec.specs.Tokens.{after_backslash, hex_digits, escaped, hex_value, is_surrogate}
use Rattle.juniper_tokens.specs.Strings.{escape_from}
use Rattle.juniper_tokens.proofs.Escapes.{letter_read, letter_unread, unicode_read, escape_from_utf8, behind_small, code_of, digit_unread, second_unread}
use Rattle.juniper_tokens.proofs.Escapes.{third_unread, fourth_unread, four_read, surrogate_read, too_few}

at_four : (P : List ℕ → Type 0) → ((a b c d : ℕ) (rest : List ℕ) → P (a ∷ b ∷ c ∷ d ∷ rest)) → (bs : List ℕ) → 4 ≤ length bs → P bs
at_four P f [] long = absurd (omega (arith, long))
at_four P f (a ∷ []) long = absurd (omega (arith, long))
at_four P f (a ∷ b ∷ []) long = absurd (omega (arith, long))
at_four P f (a ∷ b ∷ c ∷ []) long = absurd (omega (arith, long))
at_four P f (a ∷ b ∷ c ∷ d ∷ rest) long = f a b c d rest

abbrev digit : List ℕ → ℕ → Option ℕ
digit bs k = hex_value (get_or bs k 0)

pub first_wrong : (bs : List ℕ) → 4 ≤ length bs → None ≡ hex_value (get_or bs 0 0) → None ≡ escape_from (hex_digits 0 0) bs
first_wrong bs long =
    at_four (λ x. None ≡ digit x 0 → None ≡ escape_from (hex_digits 0 0) x) (λ a b c d rest e. sym (digit_unread 0 0 a (b ∷ c ∷ d ∷ rest) (sym e))) bs long

pub second_wrong : (bs : List ℕ) (w : ℕ) → 4 ≤ length bs → Some w ≡ hex_value (get_or bs 0 0) → None ≡ hex_value (get_or bs 1 0) →
    None ≡ escape_from (hex_digits 0 0) bs
second_wrong bs w long =
    at_four (λ x. Some w ≡ digit x 0 → None ≡ digit x 1 → None ≡ escape_from (hex_digits 0 0) x)
    (λ a b c d rest e f. sym (second_unread a b w (c ∷ d ∷ rest) (sym e) (sym f))) bs long

pub third_wrong : (bs : List ℕ) (w x : ℕ) → 4 ≤ length bs → Some w ≡ hex_value (get_or bs 0 0) → Some x ≡ hex_value (get_or bs 1 0) →
    None ≡ hex_value (get_or bs 2 0)
    → None ≡ escape_from (hex_digits 0 0) bs
third_wrong bs w x long =
    at_four (λ t. Some w ≡ digit t 0 → Some x ≡ digit t 1 → None ≡ digit t 2 → None ≡ escape_from (hex_digits 0 0) t)
    (λ a b c d rest e f g. sym (third_unread a b c w x (d ∷ rest) (sym e) (sym f) (sym g))) bs long

pub fourth_wrong : (bs : List ℕ) (w x y : ℕ) → 4 ≤ length bs → Some w ≡ hex_value (get_or bs 0 0) → Some x ≡ hex_value (get_or bs 1 0) →
    Some y ≡ hex_value (get_or bs 2 0)
    → None ≡ hex_value (get_or bs 3 0) → None ≡ escape_from (hex_digits 0 0) bs
fourth_wrong bs w x y long =
    at_four (λ t. Some w ≡ digit t 0 → Some x ≡ digit t 1 → Some y ≡ digit t 2 → None ≡ digit t 3 → None ≡ escape_from (hex_digits 0 0) t)
    (λ a b c d rest e f g h. sym (fourth_unread a b c d w x y rest (sym e) (sym f) (sym g) (sym h))) bs long

pub too_short : (bs : List ℕ) → length bs < 4 → None ≡ escape_from (hex_digits 0 0) bs
too_short bs short = sym (too_few bs 0 0 (omega arith))

-- a code of four digits is a character unless it is a surrogate
scalar_single : (n : ℕ) → IsScalar n → is_surrogate n ≡ false
unfolding is_surrogate
scalar_single n h = grind (arith, nat_tests)

single_scalar : (n : ℕ) → n < 65536 → is_surrogate n ≡ false → IsScalar n
unfolding is_surrogate
single_scalar n small h = grind (arith, nat_tests)

named : (a b c d w x y z : ℕ) (bs : List ℕ) (r : Option ℕ) → hex_value a ≡ Some w → hex_value b ≡ Some x → hex_value c ≡ Some y → hex_value d ≡ Some z
    → SomeIff r (IsScalar (code_of w x y z)) (code_of w x y z) → code_of w x y z < 65536 →
    option_map (λ n. (encode_utf8 n, bs)) r ≡ escape_from (hex_digits 0 0) (a ∷ b ∷ c ∷ d ∷ bs)
named a b c d w x y z bs None e f g h is small = elim (cases_Bool (is_surrogate (code_of w x y z))) [
  | inl s ↦ sym (surrogate_read a b c d w x y z bs e f g h s)
  | inr s ↦ absurd (is (single_scalar (code_of w x y z) small s))
]
named a b c d w x y z bs (Some n) e f g h is small =
    ap (λ m. Some (encode_utf8 m, bs)) is.1 ∙ sym (four_read a b c d w x y z bs e f g h (scalar_single (code_of w x y z) is.0))

pub four_named : (bs : List ℕ) (w x y z : ℕ) (r : Option ℕ) → 4 ≤ length bs → Some w ≡ hex_value (get_or bs 0 0) → Some x ≡ hex_value (get_or bs 1 0) →
    Some y ≡ hex_value (get_or bs 2 0)
    → Some z ≡ hex_value (get_or bs 3 0) → SomeIff r (IsScalar (code_of w x y z)) (code_of w x y z) → code_of w x y z < 65536
    → option_map (λ n. (encode_utf8 n, drop 4 bs)) r ≡ escape_from (hex_digits 0 0) bs
four_named bs w x y z r long =
    at_four (λ t. Some w ≡ digit t 0 → Some x ≡ digit t 1 → Some y ≡ digit t 2 → Some z ≡ digit t 3 → SomeIff r (IsScalar (code_of w x y z)) (code_of w x y z) →
    code_of w x y z < 65536
    → option_map (λ n. (encode_utf8 n, drop 4 t)) r ≡ escape_from (hex_digits 0 0) t)
    (λ a b c d rest e f g h is small. named a b c d w x y z rest r (sym e) (sym f) (sym g) (sym h) is small) bs long

-- ---- behind a backslash

pub nothing_read : (bs : List ℕ) → length bs < 1 → None ≡ escape_from after_backslash bs
unfolding escape_from
nothing_read [] none = refl
nothing_read (b ∷ bs) none = absurd (omega (arith, none))

pub letter_wrong : (bs : List ℕ) → 1 ≤ length bs → get_or bs 0 0 ≢ 117 → None ≡ escaped (get_or bs 0 0) → None ≡ escape_from after_backslash bs
letter_wrong [] some other e = absurd (omega (arith, some))
letter_wrong (b ∷ bs) some other e = sym (letter_unread b bs (ne_eqb b 117 other) (sym e))

pub letter_named : (bs : List ℕ) (c : ℕ) → 1 ≤ length bs → get_or bs 0 0 ≢ 117 → Some c ≡ escaped (get_or bs 0 0) →
    Some (encode_utf8 c, drop 1 bs) ≡ escape_from after_backslash bs
letter_named [] c some other e = absurd (omega (arith, some))
letter_named (b ∷ bs) c some other e = sym (letter_read b c bs (ne_eqb b 117 other) (sym e))

-- what stands behind the first byte
pub behind_first : (bs : List ℕ) → take (length bs - 1) (drop 1 bs) ≡ drop 1 bs
behind_first bs = take_all (length bs - 1) (drop 1 bs) (omega (arith, length-drop 1 bs))

pub code_wrong : (bs rest : List ℕ) → rest ≡ drop 1 bs → 1 ≤ length bs → get_or bs 0 0 ≡ 117 → None ≡ escape_from (hex_digits 0 0) rest →
    None ≡ escape_from after_backslash bs
code_wrong [] rest behind some is e = absurd (omega (arith, some))
code_wrong (b ∷ bs) rest behind some is e =
    e ∙ ap (escape_from (hex_digits 0 0)) behind ∙ sym (unicode_read bs) ∙ ap (λ x. escape_from after_backslash (x ∷ bs)) (sym is)

pub code_named : (bs rest : List ℕ) (c : ℕ) → rest ≡ drop 1 bs → 1 ≤ length bs → get_or bs 0 0 ≡ 117 →
    Some (encode_utf8 c, drop 4 rest) ≡ escape_from (hex_digits 0 0) rest
    → Some (encode_utf8 c, drop 5 bs) ≡ escape_from after_backslash bs
code_named [] rest c behind some is e = absurd (omega (arith, some))
code_named (b ∷ bs) rest c behind some is e =
    ap (λ x. Some (encode_utf8 c, drop 4 x)) (sym behind) ∙ e ∙ ap (escape_from (hex_digits 0 0)) behind ∙ sym (unicode_read bs)
    ∙ ap (λ x. escape_from after_backslash (x ∷ bs)) (sym is)

-- a text may be cut where an escape ends
pub escape_boundary : (bs rest : List ℕ) (n : ℕ) (t : Text) → rest ≡ drop 1 bs → IsUtf8 bs → 1 ≤ length bs → get_or bs 0 0 ≡ 92 → n ≤ length rest
    → Some (t, drop n rest) ≡ escape_from after_backslash rest → IsCharBoundary bs (n + 1)
escape_boundary [] rest n t behind u some is fits e = absurd (omega (arith, some))
escape_boundary (b ∷ bs) rest n t behind u some is fits e =
    let read : escape_from after_backslash bs ≡ Some (t, drop n bs) = ap (escape_from after_backslash) (sym behind) ∙ sym e
    ∙ ap (λ x. Some (t, drop n x)) behind in
    let left : IsUtf8 (drop n bs) = escape_from_utf8 bs after_backslash (t, drop n bs) read (behind_small b bs (omega (arith, is)) u) in
    rw add-one (IsCharBoundary-from_drop (b ∷ bs) (suc n) (omega (arith, fits, ap length behind)) left)
