-- The tokens that are read are those of the text, and a text has just those.
use Rattle.std.proofs.Common.{inl, inr, ◌≡◌, ◌≢◌, ℕ, zero, suc, ◌≤◌, ◌==◌, nat_eq, not, ◌||◌, ◌⊎◌, true, false, IsTrue, IsSome, List, [], ◌∷◌, ◌++◌, length}
use Rattle.std.proofs.Common.{take, drop, refl, ap, ap₂, sym, ◌∙◌, arith, subst, append_assoc, append-nil}
use Rattle.std.proofs.lemmas.Bool.{cases_Bool, cases_eq, eqb-true, eq-eqb, ne_eqb, false≢true, and_parts, and_from, or_cases}
use Rattle.std.proofs.lemmas.List.{take-append-drop, nil_from_length, length-append}
use Rattle.std.proofs.Math.Seq.{take-append_seam, drop-append_seam}
use Rattle.std.specs.List.{prefix_len, list_all, starts_with}
use Rattle.graphql_spec.specs.Positions.{Position, Spot, beginning, walk}
use Rattle.graphql_spec.specs.Tokens.{Lexeme, mark, name, int, string, Token, IsToken, IsText, is_nil, is_quote, quote, decoded_string, is_mark, dots}
use Rattle.graphql_spec.specs.Tokens.{mark_text, is_name, starts_name, continues_name, is_int, continues_int, ends_before, is_ignored, between}
use Rattle.juniper_tokens.specs.Lexing.{Front, Lexed, whole, fault, past, three_dots, ignored_len, int_len, starts_int, lexeme_len, lexeme_of, token_of, at_end}
use Rattle.juniper_tokens.specs.Lexing.{at_fault, with_token, lex_step, lex, lex_from, lexed}
use Rattle.juniper_tokens.proofs.Rooms.{walk-append}
use Rattle.juniper_tokens.proofs.Bytes.{at_token, token_begins, mark_no_name, mark_no_int, name_no_mark, mark_no_dot, int_no_mark, int_no_name, int_no_dot}
use Rattle.juniper_tokens.proofs.Bytes.{int_no_quote, mark_no_quote, starts_continues, run_suc, run_exact, run_all, run_ends}
use Rattle.juniper_tokens.proofs.Fronts.{IsIgnored, IsTaken, punctuator, letters, dotted, quoted, number, ignored_is, taken_is, ignored_fits, taken_fits}
use Rattle.juniper_tokens.proofs.Numbers.{int_starts, int_exact}
use Rattle.juniper_tokens.proofs.Gaps.{joins, splits, seen}
use Rattle.juniper_tokens.proofs.LexSteps.{shorter}
use Rattle.juniper_tokens.specs.Strings.{behind_quote, string_len, without_quotes}
use Rattle.juniper_tokens.proofs.StringTokens.{last_off}
use Rattle.juniper_tokens.proofs.QuotedTokens.{quoted_word, string_exact}

-- ---- one step on a text

walk_nil : (at : Spot) → walk at [] ≡ at
unfolding walk
walk_nil at = refl

ignored_nil : (tail : List ℕ) → is_ignored between [] tail ≡ true
unfolding is_ignored
ignored_nil tail = refl

at_token_nil : at_token [] ≡ true
unfolding at_token
at_token_nil = refl

-- a text after what is ignored is a text
pub text_behind : (at : Spot) (ts : List Token) (bs : List ℕ) (n : ℕ) → IsIgnored bs n → IsText (walk at (take n bs)) ts (drop n bs) → IsText at ts bs
text_behind at [] bs n gap h =
    let all : is_ignored between (take n bs ++ drop n bs) [] ≡ true = joins bs n gap (drop n bs) [] (sym (append-nil (drop n bs))) h at_token_nil in
    ap (λ x. is_ignored between x []) (sym (take-append-drop n bs)) ∙ all
text_behind at (t ∷ ts) bs n gap h =
    let more = h.0 in
    let word = h.1 in
    let rest = h.2 in
    let front = take n bs in
    let split : bs ≡ (front ++ more) ++ (word ++ rest) = sym (take-append-drop n bs) ∙ ap (λ x. front ++ x) h.3
    ∙ sym (append_assoc front more (word ++ rest)) in
    let ignored = joins bs n gap more (word ++ rest) h.3 h.4 (token_begins t.lexeme word rest h.5) in
    let here : walk at (front ++ more) ≡ walk (walk at front) more = walk-append front more at in (
      front ++ more,
      word,
      rest,
      split,
      ignored,
      h.5,
      h.6 ∙ ap (λ (x : Spot). x.position) (sym here),
      h.7 ∙ ap (λ (x : Spot). (walk x word).position) (sym here),
      subst (λ x. IsText (walk x word) ts rest) (sym here) h.8,
    )

-- what is ignored goes off a text
pub text_after : (at : Spot) (ts : List Token) (bs : List ℕ) (n : ℕ) → IsIgnored bs n → IsText at ts bs → IsText (walk at (take n bs)) ts (drop n bs)
text_after at [] bs n gap h =
    let left = splits bs n gap bs [] (sym (append-nil bs)) h at_token_nil in
    ap (λ x. is_ignored between x []) (left.back ∙ append-nil left.gap_left) ∙ left.ignored
text_after at (t ∷ ts) bs n gap h =
    let left = splits bs n gap h.0 (h.1 ++ h.2) h.3 h.4 (token_begins t.lexeme h.1 h.2 h.5) in
    let here : walk at h.0 ≡ walk (walk at (take n bs)) left.gap_left = ap (walk at) left.front ∙ walk-append (take n bs) left.gap_left at in (
      left.gap_left,
      h.1,
      h.2,
      left.back,
      left.ignored,
      h.5,
      h.6 ∙ ap (λ (x : Spot). x.position) here,
      h.7 ∙ ap (λ (x : Spot). (walk x h.1).position) here,
      subst (λ x. IsText (walk x h.1) ts h.2) here h.8,
    )

-- ---- one token

mark_is : (b : ℕ) (bs : List ℕ) → is_mark b ≡ true → lexeme_of (b ∷ bs) ≡ mark b
unfolding lexeme_of
mark_is b bs e = rw (mark_no_name b e, mark_no_int b e, mark_no_quote b e) refl

name_is : (b : ℕ) (bs : List ℕ) → starts_name b ≡ true → lexeme_of (b ∷ bs) ≡ name (b ∷ bs)
unfolding lexeme_of
name_is b bs e = rw e refl

int_is : (w : List ℕ) → is_int w ≡ true → lexeme_of w ≡ int w
unfolding lexeme_of is_int
int_is [] e = absurd (false≢true e)
int_is (b ∷ bs) e = let starts = int_starts b bs e in rw (int_no_name b starts, starts) refl

string_is : (raw : List ℕ) → lexeme_of (quoted_word raw) ≡ string raw
unfolding lexeme_of starts_name starts_int without_quotes behind_quote
string_is raw = ap string (last_off raw)

dots_are : lexeme_of three_dots ≡ mark dots
unfolding lexeme_of starts_name starts_int
dots_are = refl

one_mark : (b : ℕ) → is_mark b ≡ true → mark_text b ≡ b ∷ []
unfolding mark_text
one_mark b e = rw (mark_no_dot b e) refl

mark_token : (b : ℕ) (rest : List ℕ) → is_mark b ≡ true → IsToken (mark b) (b ∷ []) rest
mark_token b rest e = (sym (one_mark b e), rw e refl)

dots_token : (rest : List ℕ) → IsToken (mark dots) three_dots rest
unfolding mark_text is_mark
dots_token rest = (refl, refl)

name_token : (b : ℕ) (bs rest : List ℕ) → starts_name b ≡ true → list_all continues_name bs ≡ true → ends_before continues_name rest ≡ true →
    IsToken (name (b ∷ bs)) (b ∷ bs) rest
unfolding is_name
name_token b bs rest e all ends = (refl, and_from (starts_name b) _ e all, ends)

-- the word that is taken is that token
taken_sound : (bs : List ℕ) (n : ℕ) → IsTaken bs n → IsToken (lexeme_of (take n bs)) (take n bs) (drop n bs)
taken_sound bs n (punctuator b rest is one e) = rw (is, one) (subst (λ l. IsToken l (b ∷ []) rest) (sym (mark_is b [] e)) (mark_token b rest e))
taken_sound bs n (letters b rest is run e) =
    let count : n ≡ suc (prefix_len continues_name rest) = run ∙ ap (prefix_len continues_name) is ∙ run_suc continues_name b rest (starts_continues b e) in
    let front = take (prefix_len continues_name rest) rest in
    let back = drop (prefix_len continues_name rest) rest in
    rw (is, count) (subst (λ l. IsToken l (b ∷ front) back) (sym (name_is b front e))
    (name_token b front back e (run_all continues_name rest) (run_ends continues_name rest)))
taken_sound bs n (dotted rest is three) = rw (is, three) (subst (λ l. IsToken l three_dots rest) (sym dots_are) (dots_token rest))
taken_sound bs n (quoted raw rest is count decodes ends) =
    let front : take n bs ≡ quoted_word raw = ap₂ take count is ∙ take-append_seam (quoted_word raw) rest in
    let back : drop n bs ≡ rest = ap₂ drop count is ∙ drop-append_seam (quoted_word raw) rest in
    rw (front, back) (subst (λ l. IsToken l (quoted_word raw) rest) (sym (string_is raw)) (refl, decodes, ends))
taken_sound bs n (number is proper ends) = subst (λ l. IsToken l (take n bs) (drop n bs)) (sym (int_is (take n bs) proper)) (refl, proper, ends)

-- a word is read to its end
pub record IsRead (l : Lexeme) (word rest : List ℕ) : Type 0 where
  pub count : lexeme_len (word ++ rest) ≡ length word
  pub is : lexeme_of word ≡ l
  pub some : length word ≢ 0

dots_read : (rest : List ℕ) → lexeme_len (three_dots ++ rest) ≡ 3
unfolding lexeme_len is_mark starts_name
dots_read rest = refl

mark_read : (b : ℕ) (rest : List ℕ) → is_mark b ≡ true → lexeme_len (b ∷ rest) ≡ 1
unfolding lexeme_len
mark_read b rest e = rw e refl

name_read : (b : ℕ) (rest : List ℕ) → starts_name b ≡ true → lexeme_len (b ∷ rest) ≡ prefix_len continues_name (b ∷ rest)
unfolding lexeme_len
name_read b rest e = rw (name_no_mark b e, e) refl

-- the three dots, or a punctuator of one byte
some_mark : (m : ℕ) → IsTrue (is_mark m || (m == dots)) → (m ≡ dots) ⊎ (is_mark m ≡ true)
some_mark m h = elim (or_cases (is_mark m) (m == dots) h) [ inl e ↦ inr e | inr e ↦ inl (eqb-true m dots e) ]

dots_text : mark_text dots ≡ three_dots
unfolding mark_text
dots_text = refl

punctuator_read : (m : ℕ) (rest : List ℕ) → (m ≡ dots) ⊎ (is_mark m ≡ true) → IsRead (mark m) (mark_text m) rest
punctuator_read m rest (inl e) = rw (e, dots_text) (record { count = dots_read rest; is = dots_are; some = omega arith })
punctuator_read m rest (inr e) = rw (one_mark m e) (record { count = mark_read m rest e; is = mark_is m [] e; some = omega arith })

word_read : (w rest : List ℕ) → IsTrue (is_name w) → IsTrue (ends_before continues_name rest) → IsRead (name w) w rest
unfolding is_name
word_read [] rest h ends = absurd (false≢true h)
word_read (b ∷ bs) rest h ends =
    let parts = and_parts (starts_name b) (list_all continues_name bs) h in
    let all : list_all continues_name (b ∷ bs) ≡ true = and_from (continues_name b) _ (starts_continues b parts.0) parts.1 in
    record { count = name_read b (bs ++ rest) parts.0 ∙ run_exact continues_name (b ∷ bs) rest all ends; is = name_is b bs parts.0; some = omega arith }

no_dots : (b : ℕ) (rest : List ℕ) → 46 == b ≡ false → starts_with nat_eq (b ∷ rest) three_dots ≡ false
no_dots b rest e = rw e refl

number_read : (b : ℕ) (rest : List ℕ) → starts_int b ≡ true → lexeme_len (b ∷ rest) ≡ int_len (b ∷ rest)
unfolding lexeme_len
number_read b rest e = rw (int_no_mark b e, int_no_name b e, no_dots b rest (int_no_dot b e), int_no_quote b e) refl

int_read : (w rest : List ℕ) → is_int w ≡ true → ends_before continues_int rest ≡ true → IsRead (int w) w rest
unfolding is_int
int_read [] rest e ends = absurd (false≢true e)
int_read (b ∷ bs) rest e ends =
    record { count = number_read b (bs ++ rest) (int_starts b bs e) ∙ int_exact (b ∷ bs) rest e ends; is = int_is (b ∷ bs) e; some = omega arith }

quote_read : (bs : List ℕ) → lexeme_len (quote ∷ bs) ≡ string_len (quote ∷ bs)
unfolding lexeme_len is_mark starts_name
quote_read bs = refl

string_read : (raw rest : List ℕ) → IsSome (decoded_string raw) → IsTrue (not (is_nil raw) || ends_before is_quote rest) →
    IsRead (string raw) (quoted_word raw) rest
string_read raw rest decodes ends =
    record { count = quote_read ((raw ++ quote ∷ []) ++ rest) ∙ string_exact raw rest decodes ends; is = string_is raw; some = omega arith }

token_read : (l : Lexeme) (w rest : List ℕ) → IsToken l w rest → IsRead l w rest
token_read (mark m) w rest h = rw h.0 (punctuator_read m rest (some_mark m h.1))
token_read (name x) w rest h = rw h.0 (word_read x rest h.1 h.2)
token_read (int x) w rest h = rw h.0 (int_read x rest h.1 h.2)
token_read (string x) w rest h = rw h.0 (string_read x rest h.1 h.2)

-- ---- a step of the lexer, by what stands there

step_nil : (f : Front → Lexed) (s : Front) → is_nil s.ahead ≡ true → lex_step f s ≡ at_end s
step_nil f s e = rw e refl

step_gap : (f : Front → Lexed) (s : Front) → is_nil s.ahead ≡ false → ignored_len s.ahead ≢ 0 → lex_step f s ≡ f (past (ignored_len s.ahead) s)
step_gap f s e gap = rw (e, ne_eqb (ignored_len s.ahead) 0 gap) refl

step_fault : (f : Front → Lexed) (s : Front) → is_nil s.ahead ≡ false → ignored_len s.ahead ≡ 0 → lexeme_len s.ahead ≡ 0 → lex_step f s ≡ at_fault s
step_fault f s e z y = rw (e, eq-eqb (ignored_len s.ahead) 0 z, eq-eqb (lexeme_len s.ahead) 0 y) refl

step_token : (f : Front → Lexed) (s : Front) → is_nil s.ahead ≡ false → ignored_len s.ahead ≡ 0 → lexeme_len s.ahead ≢ 0
    → lex_step f s ≡ with_token (token_of (lexeme_len s.ahead) s) (f (past (lexeme_len s.ahead) s))
step_token f s e z y = rw (e, eq-eqb (ignored_len s.ahead) 0 z, ne_eqb (lexeme_len s.ahead) 0 y) refl

nil_text : (at : Spot) (bs : List ℕ) → is_nil bs ≡ true → IsText at [] bs
unfolding is_nil
nil_text at [] e = ignored_nil []
nil_text at (b ∷ bs) e = absurd (false≢true e)

-- ---- the laws

-- the text is read to its end, as these tokens
abbrev pub Sound : Front → Lexed → Type 0
Sound s l = (p : Position) → l.ending ≡ whole p → IsText s.at l.tokens s.ahead

fault_not_whole : (q p : Position) → fault q ≡ whole p → ⊥
fault_not_whole q p e = cc

token_sound : (s : Front) (l : Lexed) → lexeme_len s.ahead ≢ 0 → Sound (past (lexeme_len s.ahead) s) l →
    Sound s (with_token (token_of (lexeme_len s.ahead) s) l)
unfolding walk
token_sound s l some sound p ends =
    let n = lexeme_len s.ahead in (
      [],
      take n s.ahead,
      drop n s.ahead,
      sym (take-append-drop n s.ahead),
      ignored_nil _,
      taken_sound s.ahead n (taken_is s.ahead some),
      refl,
      refl,
      sound p ends,
    )

lex_sound : (k : ℕ) (s : Front) → length s.ahead ≤ k → Sound s (lex k s)
unfolding lex
lex_sound zero s enough = λ p ends. subst (λ bs. is_ignored between bs [] ≡ true) (sym (nil_from_length s.ahead (omega arith))) (ignored_nil [])
lex_sound (suc k) s enough = elim (cases_Bool (is_nil s.ahead)) [
  | inl e ↦ subst (Sound s) (sym (step_nil (lex k) s e)) (λ p ends. nil_text s.at s.ahead e)
  | inr e ↦ elim (cases_eq (ignored_len s.ahead) 0) [
    | inr gap ↦
        let n = ignored_len s.ahead in
        let less = shorter s.ahead n gap (ignored_fits s.ahead gap) in
        subst (Sound s) (sym (step_gap (lex k) s e gap)) (λ p ends. text_behind s.at (lex k (past n s)).tokens s.ahead n (ignored_is s.ahead gap)
        (lex_sound k (past n s) (omega arith) p ends))
    | inl z ↦ elim (cases_eq (lexeme_len s.ahead) 0) [
      | inl y ↦ subst (Sound s) (sym (step_fault (lex k) s e z y)) (λ p ends. absurd (fault_not_whole s.at.position p ends))
      | inr some ↦
          let n = lexeme_len s.ahead in
          let less = shorter s.ahead n some (taken_fits s.ahead some) in
          subst (Sound s) (sym (step_token (lex k) s e z some)) (token_sound s (lex k (past n s)) some (lex_sound k (past n s) (omega arith)))
    ]
  ]
]

abbrev pub Complete : List Token → Lexed → Type 0
Complete ts l = (p : Position) × (l ≡ record { tokens = ts; ending = whole p })

token_same : (l m : Lexeme) (a b c d : Position) → l ≡ m → a ≡ c → b ≡ d
    → ◌≡◌ {A = Token} (record { lexeme = l; span = record { start = a; end = b } }) (record { lexeme = m; span = record { start = c; end = d } })
token_same l m a b c d e f g = rw (e, f, g) refl

-- no gap stands before the next token
no_gap_before : (bs gap tail : List ℕ) → bs ≡ gap ++ tail → is_ignored between gap tail ≡ true → ignored_len bs ≡ 0 → gap ≡ []
no_gap_before bs [] tail is ign none = refl
no_gap_before bs (c ∷ gap) tail is ign none = absurd (seen c gap tail ign (ap ignored_len (sym is) ∙ none))

-- where nothing is left there is no token
none_left : (at : Spot) (ts : List Token) (bs : List ℕ) → length bs ≡ 0 → IsText at ts bs → ts ≡ []
none_left at [] bs e h = refl
none_left at (t ∷ ts) bs e h =
    let read = token_read t.lexeme h.1 h.2 h.5 in
    absurd (omega (arith, e, ap length h.3, length-append h.0 (h.1 ++ h.2), length-append h.1 h.2, read.some))

not_nil_length : (bs : List ℕ) → is_nil bs ≡ false → length bs ≢ 0
unfolding is_nil
not_nil_length [] e none = absurd (false≢true (sym e))
not_nil_length (b ∷ bs) e none = absurd (omega (arith, none))

nil_length : (bs : List ℕ) → is_nil bs ≡ true → length bs ≡ 0
unfolding is_nil
nil_length [] e = refl
nil_length (b ∷ bs) e = absurd (false≢true e)

-- where something is left that is not ignored there is a token
some_left : (at : Spot) (bs : List ℕ) → is_nil bs ≡ false → ignored_len bs ≡ 0 → IsText at [] bs → ⊥
some_left at bs e none h = not_nil_length bs e (ap length (no_gap_before bs bs [] (sym (append-nil bs)) h none))

token_complete : (f : Front → Lexed) (s : Front) (t : Token) (ts : List Token) → is_nil s.ahead ≡ false → ignored_len s.ahead ≡ 0 → IsText s.at (t ∷ ts) s.ahead
    → (lexeme_len s.ahead ≢ 0 → IsText (past (lexeme_len s.ahead) s).at ts (past (lexeme_len s.ahead) s).ahead →
    Complete ts (f (past (lexeme_len s.ahead) s))) → Complete (t ∷ ts) (lex_step f s)
token_complete f s t ts e z h more =
    let w = h.1 in
    let rest = h.2 in
    let read = token_read t.lexeme w rest h.5 in
    let no_gap = no_gap_before s.ahead h.0 (w ++ rest) h.3 h.4 z in
    let whole_is : s.ahead ≡ w ++ rest = h.3 ∙ ap (λ g. g ++ (w ++ rest)) no_gap in
    let here : walk s.at h.0 ≡ s.at = ap (walk s.at) no_gap ∙ walk_nil s.at in
    let count : lexeme_len s.ahead ≡ length w = ap lexeme_len whole_is ∙ read.count in
    let some : lexeme_len s.ahead ≢ 0 = λ none. read.some (sym count ∙ none) in
    let front : take (lexeme_len s.ahead) s.ahead ≡ w = ap₂ take count whole_is ∙ take-append_seam w rest in
    let back : drop (lexeme_len s.ahead) s.ahead ≡ rest = ap₂ drop count whole_is ∙ drop-append_seam w rest in
    let taken = token_of (lexeme_len s.ahead) s in
    let token : taken ≡ t = token_same taken.lexeme t.lexeme taken.span.start taken.span.end t.span.start t.span.end
    (ap lexeme_of front ∙ read.is)
    (ap (λ (x : Spot). x.position) (sym here) ∙ sym h.6)
    (ap₂ (λ (x : Spot) y. (walk x y).position) (sym here) front ∙ sym h.7) in
    let text : IsText (walk s.at (take (lexeme_len s.ahead) s.ahead)) ts (drop (lexeme_len s.ahead) s.ahead) =
    subst (λ x. IsText (walk s.at (take (lexeme_len s.ahead) s.ahead)) ts x) (sym back) (subst (λ x. IsText x ts rest) (ap₂ walk here (sym front)) h.8) in
    let after = more some text in
    (after.0, step_token f s e z some ∙ ap₂ with_token token after.1)

tokens_complete : (f : Front → Lexed) (s : Front) (ts : List Token) → is_nil s.ahead ≡ false → ignored_len s.ahead ≡ 0 → IsText s.at ts s.ahead
    → ((us : List Token) → lexeme_len s.ahead ≢ 0 → IsText (past (lexeme_len s.ahead) s).at us (past (lexeme_len s.ahead) s).ahead →
    Complete us (f (past (lexeme_len s.ahead) s)))
    → Complete ts (lex_step f s)
tokens_complete f s [] e z text more = absurd (some_left s.at s.ahead e z text)
tokens_complete f s (t ∷ ts) e z text more = token_complete f s t ts e z text (λ some after. more ts some after)

lex_complete : (k : ℕ) (s : Front) (ts : List Token) → length s.ahead ≤ k → IsText s.at ts s.ahead → Complete ts (lex k s)
unfolding lex
lex_complete zero s ts enough text =
    let none = none_left s.at ts s.ahead (omega arith) text in
    (s.at.position, ap (λ x. record { tokens = x; ending = whole s.at.position }) (sym none))
lex_complete (suc k) s ts enough text = elim (cases_Bool (is_nil s.ahead)) [
  | inl e ↦
      let none = none_left s.at ts s.ahead (nil_length s.ahead e) text in
      (s.at.position, step_nil (lex k) s e ∙ ap (λ x. record { tokens = x; ending = whole s.at.position }) (sym none))
  | inr e ↦ elim (cases_eq (ignored_len s.ahead) 0) [
    | inr gap ↦
        let n = ignored_len s.ahead in
        let less = shorter s.ahead n gap (ignored_fits s.ahead gap) in
        let after = lex_complete k (past n s) ts (omega arith) (text_after s.at ts s.ahead n (ignored_is s.ahead gap) text) in
        (after.0, step_gap (lex k) s e gap ∙ after.1)
    | inl z ↦
        tokens_complete (lex k) s ts e z text (λ us some after.
        let less = shorter s.ahead (lexeme_len s.ahead) some (taken_fits s.ahead some) in lex_complete k (past (lexeme_len s.ahead) s) us (omega arith) after)
  ]
]

-- the tokens that are read to the end of a text are its tokens
pub lexed_sound : (bytes : List ℕ) (p : Position) → (lexed bytes).ending ≡ whole p → IsText beginning (lexed bytes).tokens bytes
unfolding lex_from
lexed_sound bytes p ends = lex_sound (length bytes) (record { at = beginning; ahead = bytes }) (omega arith) p ends

-- the tokens of a text are read to its end
pub lexed_complete : (bytes : List ℕ) (ts : List Token) → IsText beginning ts bytes → Complete ts (lexed bytes)
unfolding lex_from
lexed_complete bytes ts text = lex_complete (length bytes) (record { at = beginning; ahead = bytes }) ts (omega arith) text

pub law : true ≡ true
law = refl
