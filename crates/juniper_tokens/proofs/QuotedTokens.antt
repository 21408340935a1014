-- A string token at the front of a text is one with its quotes, and each such token is read.
use Rattle.std.proofs.Common.{inl, inr, ◌≡◌, ◌≢◌, ℕ, ◌+◌, ◌-◌, ◌<◌, ◌==◌, nat_eq, true, false, not, ◌||◌, IsTrue, IsSome, List, [], ◌∷◌, ◌++◌, length, get_or}
use Rattle.std.proofs.Common.{Option, Some, None, refl, ap, sym, ◌∙◌, arith, subst, append_assoc, length-append}
use Rattle.std.proofs.lemmas.Bool.{cases_Bool, cases_eq, eqb-true, ne_eqb, false≢true}
use Rattle.std.proofs.lemmas.Option.{none-some}
use Rattle.std.proofs.lemmas.Str.{IsCharBoundary-after_ascii}
use Rattle.std.proofs.Math.Seq.{get_or-append_seam}
use Rattle.std.specs.List.{starts_with}
use Rattle.std.specs.Str.{IsUtf8, IsCharBoundary}
use Rattle.graphql_spec.specs.Shown.{Text}
use Rattle.graphql_spec.specs.Tokens.{Mode, characters, after_backslash, hex_digits, read_byte, before, decode_from, decoded_string, is_source_byte, quote}
use Rattle.graphql_spec.specs.Tokens.{is_nil, is_quote, ends_before}
use Rattle.juniper_tokens.specs.Strings.{three_quotes, behind_quote, closes, closing, string_len}
use Rattle.juniper_tokens.proofs.Escapes.{decode_goes, decode_stops}
use Rattle.juniper_tokens.proofs.StringTokens.{closing_ends, closing_goes, closing_is, three_len, none_len, open_len, closed_len}

-- how a string token is written
abbrev pub quoted_word : Text → Text
quoted_word raw = quote ∷ raw ++ quote ∷ []

pub record IsQuoted (bs : List ℕ) (n : ℕ) : Type 0 where
  pub raw : Text
  pub rest : List ℕ
  pub whole : bs ≡ quoted_word raw ++ rest
  pub count : n ≡ length (quoted_word raw)
  pub decodes : IsSome (decoded_string raw)
  pub ends : IsTrue (not (is_nil raw) || ends_before is_quote rest)

-- two quotes and no third
two_quotes : (rest : List ℕ) → false ≡ starts_with nat_eq (quote ∷ quote ∷ rest) three_quotes → IsTrue (ends_before is_quote rest)
unfolding ends_before is_quote
two_quotes [] e = refl
two_quotes (b ∷ rest) e = elim (cases_eq b quote) [
  | inl same ↦ let third : false ≡ true = rw same at e in absurd (false≢true third)
  | inr other ↦ rw (ne_eqb b quote other) refl
]

ends_of : (raw rest : List ℕ) → false ≡ starts_with nat_eq (quoted_word raw ++ rest) three_quotes → IsTrue (not (is_nil raw) || ends_before is_quote rest)
unfolding is_nil
ends_of [] rest e = two_quotes rest e
ends_of (b ∷ raw) rest e = refl

behind_whole : (bs behind : List ℕ) → Some behind ≡ behind_quote bs → bs ≡ quote ∷ behind
unfolding behind_quote
behind_whole [] behind e = absurd (none-some behind (sym e))
behind_whole (b ∷ bs) behind e = elim (cases_Bool (b == quote)) [
  | inl f ↦
      let same : Some behind ≡ Some bs = e ∙ rw f refl in
      let back : behind ≡ bs = cc in
      ap (λ x. x ∷ bs) (eqb-true b quote f) ∙ ap (λ x. quote ∷ x) (sym back)
  | inr f ↦ absurd (none-some behind (sym (e ∙ rw f refl)))
]

decoded_is : (raw : Text) → IsSome (decode_from characters raw) → IsSome (decoded_string raw)
unfolding decoded_string
decoded_is raw h = h

is_decoded : (raw : Text) → IsSome (decoded_string raw) → IsSome (decode_from characters raw)
unfolding decoded_string
is_decoded raw h = h

closed_quoted : (bs behind rest : List ℕ) (n : ℕ) → false ≡ starts_with nat_eq bs three_quotes → Some behind ≡ behind_quote bs →
    closing characters behind ≡ Some rest → n ≡ (length bs - length rest) + 1
    → IsQuoted bs n
closed_quoted bs behind rest n three front closes is =
    let h = closing_is behind characters rest closes in
    let whole : bs ≡ quoted_word h.raw ++ h.more =
    behind_whole bs behind front ∙ ap (λ x. quote ∷ x) (h.whole ∙ ap (λ x. h.raw ++ x) h.ends ∙ sym (append_assoc h.raw (quote ∷ []) h.more)) in
    let count : n ≡ length (quoted_word h.raw) =
    omega (
      arith,
      is,
      ap length h.ends,
      ap length (behind_whole bs behind front),
      ap length h.whole,
      length-append h.raw rest,
      length-append h.raw (quote ∷ []),
    ) in
    record {
      raw = h.raw;
      rest = h.more;
      whole = whole;
      count = count;
      decodes = decoded_is h.raw h.decodes;
      ends = ends_of h.raw h.more (three ∙ ap (λ x. starts_with nat_eq x three_quotes) whole);
    }

behind_taken : (bs behind : List ℕ) (n : ℕ) (o : Option Text) → n ≡ string_len bs → n ≢ 0 → false ≡ starts_with nat_eq bs three_quotes →
    Some behind ≡ behind_quote bs → closing characters behind ≡ o
    → IsQuoted bs n
behind_taken bs behind n None is some three front closes = absurd (some (is ∙ sym (open_len bs behind three front closes)))
behind_taken bs behind n (Some rest) is some three front closes =
    closed_quoted bs behind rest n three front closes (is ∙ sym (closed_len bs behind rest three front closes))

front_taken : (bs : List ℕ) (n : ℕ) (o : Option Text) → n ≡ string_len bs → n ≢ 0 → false ≡ starts_with nat_eq bs three_quotes → o ≡ behind_quote bs →
    IsQuoted bs n
front_taken bs n None is some three front = absurd (some (is ∙ sym (none_len bs three front)))
front_taken bs n (Some behind) is some three front = behind_taken bs behind n (closing characters behind) is some three front refl

pub string_taken : (bs : List ℕ) (n : ℕ) → n ≡ string_len bs → n ≢ 0 → IsQuoted bs n
string_taken bs n is some = elim (cases_Bool (starts_with nat_eq bs three_quotes)) [
  | inl e ↦ absurd (some (is ∙ sym (three_len bs (sym e))))
  | inr e ↦ front_taken bs n (behind_quote bs) is some (sym e) refl
]

-- ---- each string token is read

some_after : (s : Text) (o : Option Text) → IsSome (before s o) → IsSome o
unfolding before
some_after s None h = h
some_after s (Some t) h = refl

quote_unread : (m : Mode) (b : ℕ) → closes m b ≡ true → read_byte m b ≡ None
unfolding read_byte is_source_byte
quote_unread characters b e = rw (eqb-true b quote e) refl
quote_unread after_backslash b e = absurd (false≢true e)
quote_unread (hex_digits k n) b e = absurd (false≢true e)

undecoded : (m : Mode) (b : ℕ) (bs : List ℕ) → read_byte m b ≡ None → IsSome (decode_from m (b ∷ bs)) → ⊥
undecoded m b bs e h = let none : IsSome {T = Text} None = subst (λ o. IsSome o) (decode_stops m b bs e) h in false≢true none

ends_exact : (m : Mode) (rest : List ℕ) → IsSome (decode_from m []) → closing m (quote ∷ rest) ≡ Some (quote ∷ rest)
unfolding decode_from
ends_exact characters rest h = closing_ends characters quote rest refl
ends_exact after_backslash rest h = absurd (false≢true h)
ends_exact (hex_digits k n) rest h = absurd (false≢true h)

goes_exact : (m : Mode) (b : ℕ) (raw rest : List ℕ) (o : Option (Mode × Text)) → closes m b ≡ false → read_byte m b ≡ o → IsSome (decode_from m (b ∷ raw))
    → ((k : Mode) → IsSome (decode_from k raw) → closing k (raw ++ quote ∷ rest) ≡ Some (quote ∷ rest)) →
    closing m (b ∷ (raw ++ quote ∷ rest)) ≡ Some (quote ∷ rest)
goes_exact m b raw rest None e f h more = absurd (undecoded m b raw f h)
goes_exact m b raw rest (Some p) e f h more =
    let left : IsSome (decode_from p.0 raw) = some_after p.1 (decode_from p.0 raw) (subst (λ o. IsSome o) (decode_goes m b raw p f) h) in
    closing_goes m b (raw ++ quote ∷ rest) p e f ∙ more p.0 left

closing_exact : (raw : Text) (m : Mode) (rest : List ℕ) → IsSome (decode_from m raw) → closing m (raw ++ quote ∷ rest) ≡ Some (quote ∷ rest)
closing_exact [] m rest h = ends_exact m rest h
closing_exact (b ∷ raw) m rest h = elim (cases_Bool (closes m b)) [
  | inl e ↦ absurd (undecoded m b raw (quote_unread m b e) h)
  | inr e ↦ goes_exact m b raw rest (read_byte m b) e refl h (λ k. closing_exact raw k rest)
]

no_third : (rest : List ℕ) → IsTrue (ends_before is_quote rest) → false ≡ starts_with nat_eq (quote ∷ quote ∷ rest) three_quotes
unfolding ends_before is_quote
no_third [] h = refl
no_third (b ∷ rest) h = elim (cases_eq b quote) [
  | inl same ↦ let none : false ≡ true = rw same at h in absurd (false≢true none)
  | inr other ↦ rw (ne_eqb quote b (λ e. other (sym e))) refl
]

no_three : (raw rest : List ℕ) → IsSome (decode_from characters raw) → IsTrue (not (is_nil raw) || ends_before is_quote rest) →
    false ≡ starts_with nat_eq (quoted_word raw ++ rest) three_quotes
unfolding is_nil
no_three [] rest h ends = no_third rest ends
no_three (b ∷ raw) rest h ends = elim (cases_Bool (b == quote)) [
  | inl e ↦ absurd (undecoded characters b raw (quote_unread characters b e) h)
  | inr e ↦ let other : quote == b ≡ false = ne_eqb quote b (λ same. false≢true (sym e ∙ ap (λ x. x == quote) (sym same))) in rw other refl
]

behind_front : (bs : List ℕ) → Some bs ≡ behind_quote (quote ∷ bs)
unfolding behind_quote
behind_front bs = refl

pub string_exact : (raw rest : List ℕ) → IsSome (decoded_string raw) → IsTrue (not (is_nil raw) || ends_before is_quote rest) →
    string_len (quoted_word raw ++ rest) ≡ length (quoted_word raw)
string_exact raw rest h ends =
    let decoded = is_decoded raw h in
    let inside : (raw ++ quote ∷ []) ++ rest ≡ raw ++ quote ∷ rest = append_assoc raw (quote ∷ []) rest in
    let closes : closing characters ((raw ++ quote ∷ []) ++ rest) ≡ Some (quote ∷ rest) = ap (closing characters) inside
    ∙ closing_exact raw characters rest decoded in
    let count : (length (quoted_word raw ++ rest) - length (quote ∷ rest)) + 1 ≡ length (quoted_word raw) =
    omega (arith, ap length inside, length-append raw (quote ∷ rest), length-append raw (quote ∷ [])) in
    sym (closed_len (quoted_word raw ++ rest) ((raw ++ quote ∷ []) ++ rest) (quote ∷ rest) (no_three raw rest decoded ends)
    (behind_front ((raw ++ quote ∷ []) ++ rest)) closes) ∙ count

-- ---- a text may be cut behind a string token

pub quoted_boundary : (raw rest bs : List ℕ) → IsUtf8 bs → bs ≡ quoted_word raw ++ rest → IsCharBoundary bs (length (quoted_word raw))
quoted_boundary raw rest bs u is =
    let split : bs ≡ (quote ∷ raw) ++ quote ∷ rest = is ∙ ap (λ x. quote ∷ x) (append_assoc raw (quote ∷ []) rest) in
    let last : get_or bs (length (quote ∷ raw)) 0 ≡ quote = ap (λ x. get_or x (length (quote ∷ raw)) 0) split ∙ get_or-append_seam (quote ∷ raw) quote rest 0 in
    let within : length (quote ∷ raw) < length bs = omega (arith, ap length split, length-append (quote ∷ raw) (quote ∷ rest)) in
    let count : length (quoted_word raw) ≡ length (quote ∷ raw) + 1 = omega (arith, length-append raw (quote ∷ [])) in
    rw count (IsCharBoundary-after_ascii bs (length (quote ∷ raw)) u within (omega (arith, last)))
