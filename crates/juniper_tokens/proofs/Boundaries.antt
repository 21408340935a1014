-- No character is cut where a token or what is ignored ends.
use Rattle.std.proofs.Common.{inl, inr, ◌≡◌, ◌≢◌, ℕ, ◌+◌, ◌<◌, ◌==◌, Bool, true, false, List, [], ◌∷◌, ◌++◌, length, get_or, sym, arith, subst}
use Rattle.std.proofs.lemmas.Bool.{cases_Bool, cases_lt, eqb-true}
use Rattle.std.proofs.lemmas.Bool.Decides.{nat_tests}
use Rattle.std.proofs.lemmas.Str.{IsUtf8-drop, IsCharBoundary-after_ascii, IsCharBoundary-before_ascii, IsCharBoundary-start, IsCharBoundary-end}
use Rattle.std.proofs.lemmas.Str.{IsCharBoundary-past_char, IsCharBoundary-from_rest}
use Rattle.std.proofs.lemmas.List.Sums.{prefix_len-le-length, prefix_len_stops}
use Rattle.std.specs.List.{prefix_len}
use Rattle.std.specs.Char.{is_ascii_digit}
use Rattle.std.specs.Str.{IsUtf8, IsCharBoundary}
use Rattle.graphql_spec.specs.Tokens.{is_blank, is_mark, is_source_byte, starts_name, continues_name}
use Rattle.juniper_tokens.specs.Lexing.{order_mark, three_dots, ignored_len, number_len, lexeme_len}
use Rattle.juniper_tokens.proofs.Fronts.{IsIgnored, blank, comment, byte_order, IsTaken, punctuator, letters, dotted, quoted, number, ignored_is, taken_is}
use Rattle.juniper_tokens.proofs.QuotedTokens.{quoted_boundary}

blank_small : (b : ℕ) → is_blank b ≡ true → b < 128
unfolding is_blank
blank_small b h = grind (arith, nat_tests)

pub mark_small : (b : ℕ) → is_mark b ≡ true → b < 128
unfolding is_mark
mark_small b h = grind (arith, nat_tests)

no_source_small : (b : ℕ) → is_source_byte b ≡ false → b < 128
unfolding is_source_byte
no_source_small b h = grind (arith, nat_tests)

pub name_small : (b : ℕ) → continues_name b ≡ true → b < 128
unfolding continues_name starts_name
name_small b h = grind (arith, nat_tests)

pub first_small : (b : ℕ) (bs : List ℕ) → IsUtf8 (b ∷ bs) → b < 128 → IsCharBoundary (b ∷ bs) 1
first_small b bs u small = IsCharBoundary-after_ascii (b ∷ bs) 0 u (omega arith) small

digit_small : (b : ℕ) → is_ascii_digit b ≡ true → b < 128
digit_small b h = grind (arith, nat_tests)

-- a run of ASCII
pub run_boundary : (p : ℕ → Bool) → ((b : ℕ) → p b ≡ true → b < 128) → (bs : List ℕ) → IsUtf8 bs → IsCharBoundary bs (prefix_len p bs)
run_boundary p small [] u = IsCharBoundary-start [] u
run_boundary p small (b ∷ bs) u = elim (cases_Bool (p b)) [
  | inl e ↦
      let after : IsCharBoundary (b ∷ bs) 1 = first_small b bs u (small b e) in
      let rest = run_boundary p small bs (IsUtf8-drop (b ∷ bs) 1 u after) in
      rw e (IsCharBoundary-from_rest (b ∷ bs) 1 (prefix_len p bs) (omega arith) rest)
  | inr e ↦ rw e (IsCharBoundary-start (b ∷ bs) u)
]

-- a number is ASCII
number_boundary : (bs : List ℕ) → IsUtf8 bs → IsCharBoundary bs (number_len bs)
unfolding number_len
number_boundary [] u = IsCharBoundary-start [] u
number_boundary (b ∷ bs) u = elim (cases_Bool (b == 45)) [
  | inl e ↦
      let after : IsCharBoundary (b ∷ bs) 1 = first_small b bs u (omega (arith, eqb-true b 45 e)) in
      let rest = run_boundary is_ascii_digit digit_small bs (IsUtf8-drop (b ∷ bs) 1 u after) in
      let count : prefix_len is_ascii_digit bs + 1 ≡ 1 + prefix_len is_ascii_digit bs = omega arith in
      rw (e, count) (IsCharBoundary-from_rest (b ∷ bs) 1 (prefix_len is_ascii_digit bs) (omega arith) rest)
  | inr e ↦ rw e (run_boundary is_ascii_digit digit_small (b ∷ bs) u)
]

-- a comment ends before ASCII or at the end
comment_boundary : (bs : List ℕ) → IsCharBoundary bs (prefix_len is_source_byte bs)
comment_boundary bs = elim (cases_lt (prefix_len is_source_byte bs) (length bs)) [
  | inl less ↦ IsCharBoundary-before_ascii bs (prefix_len is_source_byte bs) less
      (no_source_small (get_or bs (prefix_len is_source_byte bs) 0) (prefix_len_stops is_source_byte bs 0 less))
  | inr most ↦
      let same : prefix_len is_source_byte bs ≡ length bs = omega (arith, prefix_len-le-length is_source_byte bs) in
      rw same (IsCharBoundary-end bs)
]

front_boundary : (b : ℕ) (rest bs : List ℕ) (n : ℕ) → IsUtf8 bs → bs ≡ b ∷ rest → n ≡ 1 → b < 128 → IsCharBoundary bs n
front_boundary b rest bs n u is one small =
    let text : IsUtf8 (b ∷ rest) = subst (λ x. IsUtf8 x) is u in
    rw one (subst (λ x. IsCharBoundary x 1) (sym is) (first_small b rest text small))

-- U+FEFF is one character
mark_boundary : (rest bs : List ℕ) → IsUtf8 bs → bs ≡ order_mark ++ rest → IsCharBoundary bs 3
unfolding lib.Utf8.encode
mark_boundary rest bs u is = IsCharBoundary-past_char bs rest 0 65279 (omega arith) u is

ignored_at : (bs : List ℕ) (n : ℕ) → IsUtf8 bs → IsIgnored bs n → IsCharBoundary bs n
ignored_at bs n u (blank b rest is one e) = front_boundary b rest bs n u is one (blank_small b e)
ignored_at bs n u (comment rest is run) =
    let length_is : n ≡ 1 + prefix_len is_source_byte rest = omega (arith, run) in
    let boundary = IsCharBoundary-from_rest (35 ∷ rest) 1 (prefix_len is_source_byte rest) (omega arith) (comment_boundary rest) in
    rw length_is (subst (λ x. IsCharBoundary x (1 + prefix_len is_source_byte rest)) (sym is) boundary)
ignored_at bs n u (byte_order rest is three) = rw three (mark_boundary rest bs u is)

pub ignored_boundary : (bs : List ℕ) → ignored_len bs ≢ 0 → IsUtf8 bs → IsCharBoundary bs (ignored_len bs)
ignored_boundary bs some u = ignored_at bs (ignored_len bs) u (ignored_is bs some)

dots_boundary : (rest bs : List ℕ) → IsUtf8 bs → bs ≡ three_dots ++ rest → IsCharBoundary bs 3
dots_boundary rest bs u is =
    let text : IsUtf8 (three_dots ++ rest) = subst (λ x. IsUtf8 x) is u in
    subst (λ x. IsCharBoundary x 3) (sym is) (IsCharBoundary-after_ascii (three_dots ++ rest) 2 text (omega arith) (omega arith))

taken_at : (bs : List ℕ) (n : ℕ) → IsUtf8 bs → IsTaken bs n → IsCharBoundary bs n
taken_at bs n u (punctuator b rest is one e) = front_boundary b rest bs n u is one (mark_small b e)
taken_at bs n u (letters b rest is run e) = rw run (run_boundary continues_name name_small bs u)
taken_at bs n u (dotted rest is three) = rw three (dots_boundary rest bs u is)
taken_at bs n u (quoted raw rest is count decodes ends) = rw count (quoted_boundary raw rest bs u is)
taken_at bs n u (number is whole ends) = rw is (number_boundary bs u)

pub taken_boundary : (bs : List ℕ) → lexeme_len bs ≢ 0 → IsUtf8 bs → IsCharBoundary bs (lexeme_len bs)
taken_boundary bs some u = taken_at bs (lexeme_len bs) u (taken_is bs some)
