-- The blanks, the punctuators and the names that the lexer takes at once.
use Rattle.std.proofs.Common.{inl, inr, ◌≡◌, ℕ, ◌<◌, ◌==◌, true, false, List, [], ◌∷◌, length, get_or, take, drop, refl, ap, sym, ◌∙◌, arith}
use Rattle.std.proofs.lemmas.Bool.{cases_Bool, false≢true}
use Rattle.std.proofs.lemmas.Bool.Decides.{nat_tests}
use Rattle.std.proofs.lemmas.List.Sums.{prefix_len-le-length}
use Rattle.std.specs.List.{list_all, prefix_len}
use Rattle.std.specs.Str.{IsUtf8, IsCharBoundary}
use Rattle.graphql_spec.specs.Positions.{Spot, past_byte, walk}
use Rattle.graphql_spec.specs.Tokens.{Token, mark, name, is_blank, is_mark, starts_name, continues_name}
use Rattle.juniper_tokens.specs.Lexing.{Front, past, span_past, ignored_len, lexeme_len, lexeme_of, lex_from, IsRead, IsSkipped}
use Rattle.juniper_tokens.specs.Spots.{is_plain, is_space}
use Rattle.juniper_tokens.proofs.Boundaries.{first_small, mark_small, run_boundary, name_small}
use Rattle.juniper_tokens.proofs.Bytes.{mark_begins, name_begins, begins_no_gap, mark_no_name, mark_no_int, mark_no_quote, name_no_mark, starts_continues}
use Rattle.juniper_tokens.proofs.Bytes.{run_suc, run_zero, run_all}
use Rattle.juniper_tokens.proofs.LexSteps.{lex_ignored, shorter}
use Rattle.juniper_tokens.proofs.Plain.{all_plain, mark_plain, name_plain}

-- ---- blanks

space_small : (b : ℕ) → is_space b ≡ true → b < 128
unfolding is_space
space_small b e = grind (arith, nat_tests)

space_plain : (b : ℕ) → is_space b ≡ true → is_plain b ≡ true
unfolding is_space is_plain
space_plain b e = grind (arith, nat_tests)

space_blank : (b : ℕ) → is_space b ≡ true → is_blank b ≡ true
unfolding is_space is_blank
space_blank b e = grind (arith, nat_tests)

line_blank : (b : ℕ) → b ≡ 10 → is_blank b ≡ true
unfolding is_blank
line_blank b e = rw e refl

zero_no_space : is_space 0 ≡ false
unfolding is_space
zero_no_space = refl

pub spaces_plain : (bs : List ℕ) → list_all is_plain (take (prefix_len is_space bs) bs) ≡ true
spaces_plain bs = all_plain is_space space_plain (take (prefix_len is_space bs) bs) (run_all is_space bs)

pub spaces_boundary : (bs : List ℕ) → IsUtf8 bs → IsCharBoundary bs (prefix_len is_space bs)
spaces_boundary bs u = run_boundary is_space space_small bs u

pub some_spaces : (bs : List ℕ) → is_space (get_or bs 0 0) ≡ true → 0 < prefix_len is_space bs
some_spaces [] e = absurd (false≢true (sym zero_no_space ∙ e))
some_spaces (b ∷ bs) e = omega (arith, run_suc is_space b bs e)

pub line_boundary : (bs : List ℕ) → get_or bs 0 0 ≡ 10 → IsUtf8 bs → IsCharBoundary bs 1
line_boundary [] e u = absurd (omega (arith, e))
line_boundary (b ∷ bs) e u = first_small b bs u (omega (arith, e))

blank_one : (b : ℕ) (bs : List ℕ) → is_blank b ≡ true → ignored_len (b ∷ bs) ≡ 1
unfolding ignored_len
blank_one b bs e = rw e refl

front_at : Spot → List ℕ → Front
front_at at ahead = record { at = at; ahead = ahead }

one_blank : (b : ℕ) (bs : List ℕ) (at : Spot) → is_blank b ≡ true → lex_from (front_at at (b ∷ bs)) ≡ lex_from (front_at (past_byte at b) bs)
unfolding front_at walk
one_blank b bs at e =
    let one = blank_one b bs e in
    lex_ignored (front_at at (b ∷ bs)) (λ none. omega (arith, none)) (λ none. omega (arith, one, none))
    ∙ ap (λ n. lex_from (past n (front_at at (b ∷ bs)))) one

spaces_same : (bs : List ℕ) (at : Spot) → lex_from (past (prefix_len is_space bs) (front_at at bs)) ≡ lex_from (front_at at bs)
unfolding front_at walk
spaces_same [] at = refl
spaces_same (b ∷ bs) at = elim (cases_Bool (is_space b)) [
  | inl e ↦ rw (run_suc is_space b bs e) (spaces_same bs (past_byte at b) ∙ sym (one_blank b bs at (space_blank b e)))
  | inr e ↦ rw (run_zero is_space b bs e) refl
]

pub spaces_skipped : (s u : Front) (n : ℕ) → n ≡ prefix_len is_space s.ahead → 0 < n → u ≡ past n s → IsSkipped s u
unfolding front_at
spaces_skipped s u n count some moved =
    let fits = prefix_len-le-length is_space s.ahead in
    rw (moved, count) (shorter s.ahead (prefix_len is_space s.ahead) (λ none. omega (arith, count, some, none)) (omega (arith, fits)), spaces_same s.ahead s.at)

line_same : (bs : List ℕ) (at : Spot) → get_or bs 0 0 ≡ 10 → (length (drop 1 bs) < length bs) × (lex_from (past 1 (front_at at bs)) ≡ lex_from (front_at at bs))
unfolding front_at walk
line_same [] at e = absurd (omega (arith, e))
line_same (b ∷ bs) at e = (omega arith, sym (one_blank b bs at (line_blank b e)))

pub line_skipped : (s u : Front) → get_or s.ahead 0 0 ≡ 10 → u ≡ past 1 s → IsSkipped s u
unfolding front_at
line_skipped s u e moved = rw moved (line_same s.ahead s.at e)

-- ---- tokens

other_byte : (b : ℕ) → b == 239 ≡ false → 239 == b ≡ false
other_byte b e = grind (arith, nat_tests)

no_gap_len : (b : ℕ) (bs : List ℕ) → (is_blank b ≡ false) × (b == 35 ≡ false) × (b == 239 ≡ false) → ignored_len (b ∷ bs) ≡ 0
unfolding ignored_len
no_gap_len b bs h = rw (h.0, h.1, other_byte b h.2) refl

zero_no_mark : is_mark 0 ≡ false
unfolding is_mark
zero_no_mark = refl

zero_no_name : starts_name 0 ≡ false
unfolding starts_name
zero_no_name = refl

-- a punctuator stands at the front
record IsMarked (bs : List ℕ) : Type 0 where
  no_gap : ignored_len bs ≡ 0
  one : lexeme_len bs ≡ 1
  lexeme : lexeme_of (take 1 bs) ≡ mark (get_or bs 0 0)

marked : (bs : List ℕ) → is_mark (get_or bs 0 0) ≡ true → IsMarked bs
unfolding lexeme_len lexeme_of
marked [] e = absurd (false≢true (sym zero_no_mark ∙ e))
marked (b ∷ bs) e = record {
  no_gap = no_gap_len b bs (begins_no_gap b (mark_begins b e));
  one = rw e refl;
  lexeme = rw (mark_no_name b e, mark_no_int b e, mark_no_quote b e) refl;
}

pub mark_plain_front : (bs : List ℕ) → is_mark (get_or bs 0 0) ≡ true → list_all is_plain (take 1 bs) ≡ true
mark_plain_front [] e = refl
mark_plain_front (b ∷ bs) e = rw (mark_plain b e) refl

pub mark_boundary : (bs : List ℕ) → is_mark (get_or bs 0 0) ≡ true → IsUtf8 bs → IsCharBoundary bs 1
mark_boundary [] e u = absurd (false≢true (sym zero_no_mark ∙ e))
mark_boundary (b ∷ bs) e u = first_small b bs u (mark_small b e)

pub mark_read : (s u : Front) (t : Token) → is_mark (get_or s.ahead 0 0) ≡ true → t ≡ record { lexeme = mark (get_or s.ahead 0 0); span = span_past 1 s }
    → u ≡ past 1 s → IsRead t s u
mark_read s u t e is moved =
    let h = marked s.ahead e in
    (h.no_gap, λ none. omega (arith, h.one, none), rw (is, h.one, h.lexeme) refl, rw (moved, h.one) refl)

-- a name stands at the front
record IsNamed (bs : List ℕ) : Type 0 where
  no_gap : ignored_len bs ≡ 0
  some : 0 < prefix_len continues_name bs
  count : lexeme_len bs ≡ prefix_len continues_name bs
  lexeme : lexeme_of (take (prefix_len continues_name bs) bs) ≡ name (take (prefix_len continues_name bs) bs)

named : (bs : List ℕ) → starts_name (get_or bs 0 0) ≡ true → IsNamed bs
unfolding lexeme_len lexeme_of
named [] e = absurd (false≢true (sym zero_no_name ∙ e))
named (b ∷ bs) e =
    let run = run_suc continues_name b bs (starts_continues b e) in
    record {
      no_gap = no_gap_len b bs (begins_no_gap b (name_begins b e));
      some = omega (arith, run);
      count = rw (name_no_mark b e, e) refl;
      lexeme = rw (run, e) refl;
    }

pub some_name : (bs : List ℕ) → starts_name (get_or bs 0 0) ≡ true → 0 < prefix_len continues_name bs
some_name bs e = (named bs e).some

pub name_plain_front : (bs : List ℕ) → list_all is_plain (take (prefix_len continues_name bs) bs) ≡ true
name_plain_front bs = all_plain continues_name name_plain (take (prefix_len continues_name bs) bs) (run_all continues_name bs)

pub name_boundary : (bs : List ℕ) → IsUtf8 bs → IsCharBoundary bs (prefix_len continues_name bs)
name_boundary bs u = run_boundary continues_name name_small bs u

pub name_read : (s u : Front) (t : Token) (n : ℕ) → starts_name (get_or s.ahead 0 0) ≡ true → n ≡ prefix_len continues_name s.ahead
    → t ≡ record { lexeme = name (take n s.ahead); span = span_past n s } → u ≡ past n s → IsRead t s u
name_read s u t n e count is moved =
    let h = named s.ahead e in
    (h.no_gap, λ none. omega (arith, h.count, h.some, none), rw (is, count, h.count, h.lexeme) refl, rw (moved, count, h.count) refl)
