-- What stands at the front of a text, where something is ignored or taken there.
use Rattle.std.proofs.Common.{inl, inr, ◌≡◌, ◌≢◌, ℕ, ◌+◌, ◌≤◌, true, not, ◌||◌, IsTrue, IsSome, ◌==◌, nat_eq, List, [], ◌∷◌, ◌++◌, length, take, drop, refl}
use Rattle.std.proofs.Common.{◌∙◌, ap, sym, arith}
use Rattle.std.proofs.lemmas.Bool.{cases_Bool, eqb-true}
use Rattle.std.proofs.lemmas.Bool.Decides.{Decides-eqb}
use Rattle.std.proofs.lemmas.Slice.Eq.{starts_is}
use Rattle.std.proofs.lemmas.List.{length-append}
use Rattle.std.proofs.lemmas.List.Sums.{prefix_len-le-length}
use Rattle.std.specs.List.{prefix_len, starts_with}
use Rattle.graphql_spec.specs.Tokens.{decoded_string, is_nil, is_quote, quote, is_blank, is_mark, is_source_byte, starts_name, continues_name, is_int}
use Rattle.graphql_spec.specs.Tokens.{continues_int, ends_before}
use Rattle.juniper_tokens.specs.Lexing.{order_mark, three_dots, ignored_len, number_len, int_len, lexeme_len}
use Rattle.juniper_tokens.specs.Strings.{string_len}
use Rattle.juniper_tokens.proofs.Numbers.{int_taken, number_within}
use Rattle.juniper_tokens.proofs.QuotedTokens.{quoted_word, string_taken}

pub data IsIgnored (bs : List ℕ) (n : ℕ) : Type 0 where
  blank : (b : ℕ) (rest : List ℕ) → bs ≡ b ∷ rest → n ≡ 1 → is_blank b ≡ true → IsIgnored bs n
  comment : (rest : List ℕ) → bs ≡ 35 ∷ rest → n ≡ prefix_len is_source_byte rest + 1 → IsIgnored bs n
  byte_order : (rest : List ℕ) → bs ≡ order_mark ++ rest → n ≡ 3 → IsIgnored bs n

pub data IsTaken (bs : List ℕ) (n : ℕ) : Type 0 where
  punctuator : (b : ℕ) (rest : List ℕ) → bs ≡ b ∷ rest → n ≡ 1 → is_mark b ≡ true → IsTaken bs n
  letters : (b : ℕ) (rest : List ℕ) → bs ≡ b ∷ rest → n ≡ prefix_len continues_name bs → starts_name b ≡ true → IsTaken bs n
  dotted : (rest : List ℕ) → bs ≡ three_dots ++ rest → n ≡ 3 → IsTaken bs n
  quoted : (raw rest : List ℕ) → bs ≡ quoted_word raw ++ rest → n ≡ length (quoted_word raw) → IsSome (decoded_string raw) →
      IsTrue (not (is_nil raw) || ends_before is_quote rest) → IsTaken bs n
  number : n ≡ number_len bs → is_int (take n bs) ≡ true → ends_before continues_int (drop n bs) ≡ true → IsTaken bs n

begins : (bs p : List ℕ) → starts_with nat_eq bs p ≡ true → bs ≡ p ++ drop (length p) bs
begins bs p e = (starts_is Decides-eqb bs p true (sym e)).0 refl

pub ignored_is : (bs : List ℕ) → ignored_len bs ≢ 0 → IsIgnored bs (ignored_len bs)
unfolding ignored_len
ignored_is [] some = absurd (some refl)
ignored_is (b ∷ bs) some = elim (cases_Bool (is_blank b)) [
  | inl e ↦ rw e (blank b bs refl refl e)
  | inr e ↦ elim (cases_Bool (b == 35)) [
    | inl f ↦ rw (e, f) (comment bs (ap (λ c. c ∷ bs) (eqb-true b 35 f)) refl)
    | inr f ↦ elim (cases_Bool (starts_with nat_eq (b ∷ bs) order_mark)) [
      | inl g ↦ rw (e, f, g) (byte_order (drop 3 (b ∷ bs)) (begins (b ∷ bs) order_mark g) refl)
      | inr g ↦ absurd (some (rw (e, f, g) refl))
    ]
  ]
]

pub taken_is : (bs : List ℕ) → lexeme_len bs ≢ 0 → IsTaken bs (lexeme_len bs)
unfolding lexeme_len
taken_is [] some = absurd (some refl)
taken_is (b ∷ bs) some = elim (cases_Bool (is_mark b)) [
  | inl e ↦ rw e (punctuator b bs refl refl e)
  | inr e ↦ elim (cases_Bool (starts_name b)) [
    | inl f ↦ rw (e, f) (letters b bs refl refl f)
    | inr f ↦ elim (cases_Bool (starts_with nat_eq (b ∷ bs) three_dots)) [
      | inl g ↦ rw (e, f, g) (dotted (drop 3 (b ∷ bs)) (begins (b ∷ bs) three_dots g) refl)
      | inr g ↦ elim (cases_Bool (b == quote)) [
        | inl h ↦
            let is : lexeme_len (b ∷ bs) ≡ string_len (b ∷ bs) = rw (e, f, g, h) refl in
            let taken = string_taken (b ∷ bs) (string_len (b ∷ bs)) refl (λ none. some (is ∙ none)) in
            rw is (quoted taken.raw taken.rest taken.whole taken.count taken.decodes taken.ends)
        | inr h ↦
            let is : lexeme_len (b ∷ bs) ≡ int_len (b ∷ bs) = rw (e, f, g, h) refl in
            let taken = int_taken (b ∷ bs) (int_len (b ∷ bs)) refl (λ none. some (is ∙ none)) in
            rw is (number taken.0 taken.1 taken.2)
      ]
    ]
  ]
]

ignored_within : (bs : List ℕ) (n : ℕ) → IsIgnored bs n → n ≤ length bs
ignored_within bs n (blank b rest is one e) = rw (is, one) (omega arith)
ignored_within bs n (comment rest is run) = rw (is, run) (omega (arith, prefix_len-le-length is_source_byte rest))
ignored_within bs n (byte_order rest is three) = rw (is, three) (omega arith)

taken_within : (bs : List ℕ) (n : ℕ) → IsTaken bs n → n ≤ length bs
taken_within bs n (punctuator b rest is one e) = rw (is, one) (omega arith)
taken_within bs n (letters b rest is run e) = rw run (prefix_len-le-length continues_name bs)
taken_within bs n (dotted rest is three) = rw (is, three) (omega arith)
taken_within bs n (quoted raw rest is count decodes ends) = rw (is, count) (omega (arith, length-append (quoted_word raw) rest))
taken_within bs n (number is whole ends) = rw is (number_within bs)

pub ignored_fits : (bs : List ℕ) → ignored_len bs ≢ 0 → ignored_len bs ≤ length bs
ignored_fits bs some = ignored_within bs (ignored_len bs) (ignored_is bs some)

pub taken_fits : (bs : List ℕ) → lexeme_len bs ≢ 0 → lexeme_len bs ≤ length bs
taken_fits bs some = taken_within bs (lexeme_len bs) (taken_is bs some)
