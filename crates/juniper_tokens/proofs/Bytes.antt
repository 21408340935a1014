-- Which bytes begin what.
use Rattle.std.proofs.Common.{inl, inr, ◌≡◌, ℕ, suc, ◌==◌, Bool, true, false, not, ◌&&◌, ◌||◌, List, [], ◌∷◌, ◌++◌, IsTrue, length, take, drop, refl, ap, sym}
use Rattle.std.proofs.Common.{◌∙◌, arith}
use Rattle.std.proofs.lemmas.Bool.{cases_Bool, eqb-true, and_parts, and_from, or_cases, not-true, false≢true}
use Rattle.std.proofs.lemmas.Bool.Decides.{nat_tests}
use Rattle.std.specs.List.{prefix_len, list_all}
use Rattle.juniper_tokens.specs.Lexing.{starts_int}
use Rattle.graphql_spec.specs.Tokens.{Lexeme, mark, name, int, string, IsToken, is_blank, is_line_end, is_mark, is_source_byte, starts_name, continues_name}
use Rattle.graphql_spec.specs.Tokens.{is_name, is_int, is_digits, ends_before, mark_text, dots, quote}

-- a token may begin with the byte: it stands for itself, and nothing that is ignored begins with it
unfoldable pub may_begin : ℕ → Bool
may_begin b = is_source_byte b && (not (is_blank b) && (not (b == 35) && not (b == 239)))

unfoldable pub at_token : List ℕ → Bool
at_token [] = true
at_token (b ∷ bs) = may_begin b

pub mark_begins : (b : ℕ) → is_mark b ≡ true → may_begin b ≡ true
unfolding is_mark may_begin is_source_byte is_blank
mark_begins b e = grind (arith, nat_tests)

pub name_begins : (b : ℕ) → starts_name b ≡ true → may_begin b ≡ true
unfolding starts_name may_begin is_source_byte is_blank
name_begins b e = grind (arith, nat_tests)

pub digit_begins : (b : ℕ) → Rattle.std.specs.Char.is_ascii_digit b ≡ true → may_begin b ≡ true
unfolding may_begin is_source_byte is_blank
digit_begins b e = grind (arith, nat_tests)

pub mark_no_name : (b : ℕ) → is_mark b ≡ true → starts_name b ≡ false
unfolding is_mark starts_name
mark_no_name b e = grind (arith, nat_tests)

pub mark_no_int : (b : ℕ) → is_mark b ≡ true → starts_int b ≡ false
unfolding is_mark starts_int
mark_no_int b e = grind (arith, nat_tests)

pub name_no_mark : (b : ℕ) → starts_name b ≡ true → is_mark b ≡ false
unfolding is_mark starts_name
name_no_mark b e = grind (arith, nat_tests)

pub mark_no_dot : (b : ℕ) → is_mark b ≡ true → b == 46 ≡ false
unfolding is_mark
mark_no_dot b e = grind (arith, nat_tests)

-- an Int begins with no other token
pub int_no_mark : (b : ℕ) → starts_int b ≡ true → is_mark b ≡ false
unfolding is_mark starts_int
int_no_mark b e = grind (arith, nat_tests)

pub int_no_name : (b : ℕ) → starts_int b ≡ true → starts_name b ≡ false
unfolding starts_name starts_int
int_no_name b e = grind (arith, nat_tests)

pub int_no_dot : (b : ℕ) → starts_int b ≡ true → 46 == b ≡ false
unfolding starts_int
int_no_dot b e = grind (arith, nat_tests)

pub int_no_quote : (b : ℕ) → starts_int b ≡ true → b == quote ≡ false
unfolding starts_int
int_no_quote b e = grind (arith, nat_tests)

pub mark_no_quote : (b : ℕ) → is_mark b ≡ true → b == quote ≡ false
unfolding is_mark
mark_no_quote b e = grind (arith, nat_tests)

pub starts_continues : (b : ℕ) → starts_name b ≡ true → continues_name b ≡ true
unfolding continues_name
starts_continues b e = rw e refl

pub source_no_end : (b : ℕ) → is_source_byte b ≡ true → is_line_end b ≡ false
unfolding is_source_byte is_line_end
source_no_end b e = grind (arith, nat_tests)

pub end_no_source : (b : ℕ) → is_line_end b ≡ true → is_source_byte b ≡ false
unfolding is_source_byte is_line_end
end_no_source b e = grind (arith, nat_tests)

pub end_blank : (b : ℕ) → is_line_end b ≡ true → is_blank b ≡ true
unfolding is_blank is_line_end
end_blank b e = grind (arith, nat_tests)

-- what no comment holds and no line's end is begins nothing that is ignored
pub no_gap : (b : ℕ) → is_source_byte b ≡ false → is_line_end b ≡ false → (is_blank b ≡ false) × (b == 35 ≡ false) × (b == 239 ≡ false)
unfolding is_blank is_line_end is_source_byte
no_gap b e f = (grind (arith, nat_tests), grind (arith, nat_tests), grind (arith, nat_tests))

pub begins_source : (b : ℕ) → may_begin b ≡ true → is_source_byte b ≡ true
unfolding may_begin
begins_source b e = (and_parts _ _ e).0

pub begins_no_gap : (b : ℕ) → may_begin b ≡ true → (is_blank b ≡ false) × (b == 35 ≡ false) × (b == 239 ≡ false)
unfolding may_begin is_blank is_source_byte
begins_no_gap b e = (grind (arith, nat_tests), grind (arith, nat_tests), grind (arith, nat_tests))

-- runs of bytes that pass a test
pub run_suc : (p : ℕ → Bool) (b : ℕ) (bs : List ℕ) → p b ≡ true → prefix_len p (b ∷ bs) ≡ suc (prefix_len p bs)
run_suc p b bs e = rw e (omega arith)

pub run_zero : (p : ℕ → Bool) (b : ℕ) (bs : List ℕ) → p b ≡ false → prefix_len p (b ∷ bs) ≡ 0
run_zero p b bs e = rw e refl

pub run_exact : (p : ℕ → Bool) (w rest : List ℕ) → list_all p w ≡ true → ends_before p rest ≡ true → prefix_len p (w ++ rest) ≡ length w
unfolding ends_before
run_exact p [] [] all ends = refl
run_exact p [] (b ∷ rest) all ends = run_zero p b rest (not-true (p b) ends)
run_exact p (b ∷ w) rest all ends =
    let h = and_parts (p b) (list_all p w) all in
    run_suc p b (w ++ rest) h.0 ∙ ap suc (run_exact p w rest h.1 ends)

pub run_all : (p : ℕ → Bool) (bs : List ℕ) → list_all p (take (prefix_len p bs) bs) ≡ true
run_all p [] = refl
run_all p (b ∷ bs) = elim (cases_Bool (p b)) [
  | inl e ↦ rw (run_suc p b bs e) (and_from (p b) _ e (run_all p bs))
  | inr e ↦ rw (run_zero p b bs e) refl
]

pub run_ends : (p : ℕ → Bool) (bs : List ℕ) → ends_before p (drop (prefix_len p bs) bs) ≡ true
unfolding ends_before
run_ends p [] = refl
run_ends p (b ∷ bs) = elim (cases_Bool (p b)) [
  | inl e ↦ rw (run_suc p b bs e) (run_ends p bs)
  | inr e ↦ rw (run_zero p b bs e) (rw e refl)
]

dot_begins : may_begin 46 ≡ true
unfolding may_begin is_source_byte is_blank
dot_begins = refl

minus_begins : may_begin 45 ≡ true
unfolding may_begin is_source_byte is_blank
minus_begins = refl

-- a token's first byte may begin it
punctuator_begins : (m : ℕ) (rest : List ℕ) → IsTrue (is_mark m || (m == dots)) → at_token (mark_text m ++ rest) ≡ true
unfolding at_token mark_text
punctuator_begins m rest h = elim (cases_Bool (m == dots)) [
  | inl e ↦ rw e (dot_begins)
  | inr e ↦ rw e (mark_begins m (elim (or_cases (is_mark m) (m == dots) h) [ inl f ↦ f | inr f ↦ absurd (false≢true (sym e ∙ f)) ]))
]

word_begins : (w rest : List ℕ) → IsTrue (is_name w) → at_token (w ++ rest) ≡ true
unfolding at_token is_name
word_begins [] rest h = absurd (false≢true h)
word_begins (b ∷ bs) rest h = name_begins b (and_parts (starts_name b) _ h).0

digits_begin : (d : ℕ) (ds : List ℕ) → is_digits (d ∷ ds) ≡ true → may_begin d ≡ true
unfolding is_digits
digits_begin d [] h = digit_begins d h
digits_begin d (e ∷ ds) h = digit_begins d (and_parts _ _ (and_parts _ _ h).0).0

int_begins : (w rest : List ℕ) → IsTrue (is_int w) → at_token (w ++ rest) ≡ true
unfolding at_token is_int
int_begins [] rest h = absurd (false≢true h)
int_begins (b ∷ bs) rest h = elim (cases_Bool (b == 45)) [
  | inl e ↦ rw (eqb-true b 45 e) minus_begins
  | inr e ↦ digits_begin b bs (rw e at h)
]

quote_begins : (raw rest : List ℕ) → at_token ((quote ∷ raw ++ quote ∷ []) ++ rest) ≡ true
unfolding at_token may_begin is_source_byte is_blank
quote_begins raw rest = refl

pub token_begins : (l : Lexeme) (word rest : List ℕ) → IsToken l word rest → at_token (word ++ rest) ≡ true
token_begins (mark m) word rest h = rw h.0 (punctuator_begins m rest h.1)
token_begins (name w) word rest h = rw h.0 (word_begins w rest h.1)
token_begins (int w) word rest h = rw h.0 (int_begins w rest h.1)
token_begins (string raw) word rest h = rw h.0 (quote_begins raw rest)
