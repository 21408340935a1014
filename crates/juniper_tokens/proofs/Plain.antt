-- Words that lie on one line, with a byte for each character.
use Rattle.std.proofs.Common.{inl, inr, ◌≡◌, ◌≢◌, ℕ, suc, ◌+◌, ◌<◌, ◌==◌, Bool, true, false, List, [], ◌∷◌, ◌++◌, length, get_or, take, refl, ap, sym, ◌∙◌}
use Rattle.std.proofs.Common.{arith}
use Rattle.std.proofs.lemmas.Bool.{cases_Bool, eqb-true, ne_eqb, and_parts, and_from, false≢true}
use Rattle.std.proofs.lemmas.Bool.Decides.{nat_tests}
use Rattle.std.specs.Char.{is_ascii_digit}
use Rattle.std.specs.List.{list_all, prefix_len}
use Rattle.graphql_spec.specs.Positions.{Spot, past_byte, continues_character, walk}
use Rattle.graphql_spec.specs.Tokens.{is_mark, starts_name, continues_name}
use Rattle.juniper_tokens.specs.Lexing.{lexeme_len, number_len, three_dots}
use Rattle.juniper_tokens.specs.Spots.{begins_quoted, is_plain}
use Rattle.juniper_tokens.proofs.Bytes.{run_all}
use Rattle.juniper_tokens.proofs.Fronts.{IsTaken, punctuator, letters, dotted, quoted, number, taken_is}
use Rattle.juniper_tokens.proofs.QuotedTokens.{quoted_word}

plain_kind : (b : ℕ) → is_plain b ≡ true → (b == 13 ≡ false) × (b == 10 ≡ false) × (continues_character b ≡ false)
unfolding is_plain continues_character
plain_kind b e = (grind (arith, nat_tests), grind (arith, nat_tests), grind (arith, nat_tests))

abbrev spot_at : ℕ → ℕ → ℕ → Spot
spot_at index line column = record { position = record { index = index; line = line; column = column }; after_return = false }

one_plain : (s : Spot) (b : ℕ) → is_plain b ≡ true → past_byte s b ≡ spot_at (s.position.index + 1) s.position.line (s.position.column + 1)
unfolding past_byte
one_plain s b e = let k = plain_kind b e in rw (k.0, k.1, k.2) refl

spot_same : (line a b c d : ℕ) → a ≡ b → c ≡ d → spot_at a line c ≡ spot_at b line d
spot_same line a b c d e f = rw (e, f) refl

-- past them a line is as many characters further as there are bytes
walk_plain : (s : Spot) (b : ℕ) (bs : List ℕ) → list_all is_plain (b ∷ bs) ≡ true →
    walk s (b ∷ bs) ≡ spot_at (s.position.index + suc (length bs)) s.position.line (s.position.column + suc (length bs))
unfolding walk
walk_plain s b [] all = one_plain s b (and_parts (is_plain b) true all).0
walk_plain s b (c ∷ cs) all =
    let h = and_parts (is_plain b) (list_all is_plain (c ∷ cs)) all in
    ap (λ t. walk t (c ∷ cs)) (one_plain s b h.0)
    ∙ (walk_plain (spot_at (s.position.index + 1) s.position.line (s.position.column + 1)) c cs h.1
    ∙ spot_same s.position.line _ _ _ _ (omega arith) (omega arith))

pub all_plain : (p : ℕ → Bool) → ((b : ℕ) → p b ≡ true → is_plain b ≡ true) → (xs : List ℕ) → list_all p xs ≡ true → list_all is_plain xs ≡ true
all_plain p plain [] all = refl
all_plain p plain (x ∷ xs) all =
    let h = and_parts (p x) (list_all p xs) all in
    and_from (is_plain x) (list_all is_plain xs) (plain x h.0) (all_plain p plain xs h.1)

pub mark_plain : (b : ℕ) → is_mark b ≡ true → is_plain b ≡ true
unfolding is_mark is_plain
mark_plain b e = grind (arith, nat_tests)

pub name_plain : (b : ℕ) → continues_name b ≡ true → is_plain b ≡ true
unfolding continues_name starts_name is_plain
name_plain b e = grind (arith, nat_tests)

digit_plain : (b : ℕ) → is_ascii_digit b ≡ true → is_plain b ≡ true
unfolding is_plain
digit_plain b e = grind (arith, nat_tests)

run_plain : (bs : List ℕ) → list_all is_plain (take (prefix_len is_ascii_digit bs) bs) ≡ true
run_plain bs = all_plain is_ascii_digit digit_plain (take (prefix_len is_ascii_digit bs) bs) (run_all is_ascii_digit bs)

minus_plain : (b : ℕ) → b ≡ 45 → is_plain b ≡ true
unfolding is_plain
minus_plain b e = rw e refl

number_plain : (bs : List ℕ) → list_all is_plain (take (number_len bs) bs) ≡ true
unfolding number_len
number_plain [] = refl
number_plain (b ∷ bs) = elim (cases_Bool (b == 45)) [
  | inl e ↦
      let count : prefix_len is_ascii_digit bs + 1 ≡ suc (prefix_len is_ascii_digit bs) = omega arith in
      rw (e, count) (and_from (is_plain b) _ (minus_plain b (eqb-true b 45 e)) (run_plain bs))
  | inr e ↦ rw e (run_plain (b ∷ bs))
]

dots_plain : (rest : List ℕ) → list_all is_plain (take 3 (three_dots ++ rest)) ≡ true
unfolding is_plain
dots_plain rest = refl

quoted_begins : (raw rest : List ℕ) → begins_quoted (take (length (quoted_word raw)) (quoted_word raw ++ rest)) ≡ true
unfolding begins_quoted
quoted_begins raw rest = refl

taken_plain : (bs : List ℕ) (n : ℕ) → IsTaken bs n → begins_quoted (take n bs) ≡ false → list_all is_plain (take n bs) ≡ true
taken_plain bs n (punctuator b rest is one e) unquoted = rw (is, one) (and_from (is_plain b) true (mark_plain b e) refl)
taken_plain bs n (letters b rest is run e) unquoted =
    rw run (all_plain continues_name name_plain (take (prefix_len continues_name bs) bs) (run_all continues_name bs))
taken_plain bs n (dotted rest is three) unquoted = rw (is, three) (dots_plain rest)
taken_plain bs n (quoted raw rest is count decodes ends) unquoted =
    let here : begins_quoted (take n bs) ≡ true = rw (is, count) (quoted_begins raw rest) in
    absurd (false≢true (sym unquoted ∙ here))
taken_plain bs n (number is whole ends) unquoted = rw is (number_plain bs)

-- the word of a token is so where it is not quoted
pub lexeme_plain : (bs : List ℕ) → lexeme_len bs ≢ 0 → begins_quoted (take (lexeme_len bs) bs) ≡ false →
    list_all is_plain (take (lexeme_len bs) bs) ≡ true
lexeme_plain bs some unquoted = taken_plain bs (lexeme_len bs) (taken_is bs some) unquoted

-- what begins with another byte is not quoted
pub unquoted : (w : List ℕ) → get_or w 0 0 ≢ 34 → begins_quoted w ≡ false
unfolding begins_quoted
unquoted [] other = refl
unquoted (b ∷ bs) other = ne_eqb b 34 other

pub walk_word : (s : Spot) (w : List ℕ) → 0 < length w → list_all is_plain w ≡ true →
    walk s w ≡ spot_at (s.position.index + length w) s.position.line (s.position.column + length w)
walk_word s [] some all = absurd (omega (arith, some))
walk_word s (b ∷ bs) some all = walk_plain s b bs all
