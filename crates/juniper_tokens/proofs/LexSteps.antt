-- Steps of the lexer's loop.
use Rattle.std.proofs.Common.{inl, inr, ◌≡◌, ◌≢◌, ℕ, zero, suc, ◌<◌, ◌≤◌, true, false, ◌==◌, List, [], ◌∷◌, ◌++◌, length, drop, refl, ap, sym, ◌∙◌, arith}
use Rattle.std.proofs.Common.{append_assoc, append-nil}
use Rattle.std.proofs.lemmas.Bool.{cases_Bool, eqb-false, eq-eqb, ne_eqb}
use Rattle.std.proofs.lemmas.List.{length-drop}
use Rattle.graphql_spec.specs.Tokens.{Token, is_nil}
use Rattle.juniper_tokens.specs.Lexing.{Front, Lexed, whole, fault, past, ignored_len, lexeme_len, token_of, at_end, at_fault, with_token, lex_step, lex}
use Rattle.juniper_tokens.specs.Lexing.{lex_from, behind}
use Rattle.juniper_tokens.proofs.Fronts.{ignored_fits, taken_fits}

pub shorter : (bs : List ℕ) (n : ℕ) → n ≢ 0 → n ≤ length bs → length (drop n bs) < length bs
shorter bs n some fits = rw length-drop (omega arith)

nil_is : (bs : List ℕ) → length bs ≡ 0 → is_nil bs ≡ true
unfolding is_nil
nil_is [] e = refl
nil_is (b ∷ bs) e = absurd (omega (arith, e))

nil_not : (bs : List ℕ) → length bs ≢ 0 → is_nil bs ≡ false
unfolding is_nil
nil_not [] some = absurd (some refl)
nil_not (b ∷ bs) some = refl

-- a step asks the rest only where less is left
step_same : (f g : Front → Lexed) (s : Front) → ((t : Front) → length t.ahead < length s.ahead → f t ≡ g t) → lex_step f s ≡ lex_step g s
step_same f g s same = elim (cases_Bool (is_nil s.ahead)) [
  | inl e ↦ rw e refl
  | inr e ↦ rw e (elim (cases_Bool (ignored_len s.ahead == 0)) [
    | inl z ↦ rw z (elim (cases_Bool (lexeme_len s.ahead == 0)) [
      | inl y ↦ rw y refl
      | inr y ↦
          let some : lexeme_len s.ahead ≢ 0 = eqb-false _ 0 y in
          rw y (ap (with_token (token_of (lexeme_len s.ahead) s)) (same (past (lexeme_len s.ahead) s)
          (shorter s.ahead (lexeme_len s.ahead) some (taken_fits s.ahead some))))
    ])
    | inr z ↦
        let some : ignored_len s.ahead ≢ 0 = eqb-false _ 0 z in
        rw z (same (past (ignored_len s.ahead) s) (shorter s.ahead (ignored_len s.ahead) some (ignored_fits s.ahead some)))
  ])
]

lex_none : (k : ℕ) (s : Front) → length s.ahead ≡ 0 → lex k s ≡ at_end s
unfolding lex
lex_none zero s e = refl
lex_none (suc k) s e = rw (nil_is s.ahead e) refl

-- more steps than bytes change nothing
pub lex_enough : (k j : ℕ) (s : Front) → length s.ahead ≤ k → length s.ahead ≤ j → lex k s ≡ lex j s
unfolding lex
lex_enough zero j s few many = sym (lex_none j s (omega arith))
lex_enough (suc k) zero s few many = lex_none (suc k) s (omega arith)
lex_enough (suc k) (suc j) s few many = step_same (lex k) (lex j) s (λ t less. lex_enough k j t (omega arith) (omega arith))

step_by : (k : ℕ) (s : Front) → length s.ahead ≤ suc k → lex (suc k) s ≡ lex_step lex_from s
unfolding lex lex_from
step_by k s enough = step_same (lex k) lex_from s (λ t less. lex_enough k (length t.ahead) t (omega arith) (omega arith))

lex_is_from : (n : ℕ) (s : Front) → length s.ahead ≡ n → n ≢ 0 → lex n s ≡ lex_step lex_from s
lex_is_from zero s e some = absurd (some refl)
lex_is_from (suc n) s e some = step_by n s (omega arith)

pub lex_done : (s : Front) → length s.ahead ≡ 0 → lex_from s ≡ at_end s
unfolding lex_from
lex_done s e = lex_none (length s.ahead) s e

pub lex_is : (s : Front) → length s.ahead ≢ 0 → lex_from s ≡ lex_step lex_from s
unfolding lex_from
lex_is s some = lex_is_from (length s.ahead) s refl some

pub lex_ignored : (s : Front) → length s.ahead ≢ 0 → ignored_len s.ahead ≢ 0 → lex_from s ≡ lex_from (past (ignored_len s.ahead) s)
lex_ignored s some e = rw (lex_is s some, nil_not s.ahead some, ne_eqb (ignored_len s.ahead) 0 e) refl

pub lex_fault : (s : Front) → length s.ahead ≢ 0 → ignored_len s.ahead ≡ 0 → lexeme_len s.ahead ≡ 0 → lex_from s ≡ at_fault s
lex_fault s some e f = rw (lex_is s some, nil_not s.ahead some, eq-eqb (ignored_len s.ahead) 0 e, eq-eqb (lexeme_len s.ahead) 0 f) refl

pub lex_token : (s : Front) → length s.ahead ≢ 0 → ignored_len s.ahead ≡ 0 → lexeme_len s.ahead ≢ 0
    → lex_from s ≡ with_token (token_of (lexeme_len s.ahead) s) (lex_from (past (lexeme_len s.ahead) s))
lex_token s some e f = rw (lex_is s some, nil_not s.ahead some, eq-eqb (ignored_len s.ahead) 0 e, ne_eqb (lexeme_len s.ahead) 0 f) refl

-- what the loop has found, when it ends and when it goes on
pub ends_whole : (found : List Token) (s : Front) (l : Lexed) → length s.ahead ≡ 0 → behind found (lex_from s) ≡ l →
    record { tokens = found; ending = whole s.at.position } ≡ l
ends_whole found s l none kept =
    ap (λ ts. record { tokens = ts; ending = whole s.at.position }) (sym (append-nil found)) ∙ sym (ap (behind found) (lex_done s none)) ∙ kept

pub ends_fault : (found : List Token) (s : Front) (l : Lexed) → length s.ahead ≢ 0 → ignored_len s.ahead ≡ 0 → lexeme_len s.ahead ≡ 0 →
    behind found (lex_from s) ≡ l
    → record { tokens = found; ending = fault s.at.position } ≡ l
ends_fault found s l some e f kept =
    ap (λ ts. record { tokens = ts; ending = fault s.at.position }) (sym (append-nil found)) ∙ sym (ap (behind found) (lex_fault s some e f)) ∙ kept

pub goes_on : (found : List Token) (t : Token) (s u : Front) (l : Lexed) → length s.ahead ≢ 0 → ignored_len s.ahead ≡ 0 → lexeme_len s.ahead ≢ 0
    → t ≡ token_of (lexeme_len s.ahead) s → u ≡ past (lexeme_len s.ahead) s → behind found (lex_from s) ≡ l → behind (found ++ t ∷ []) (lex_from u) ≡ l
goes_on found t s u l some e f is at kept =
    let first = token_of (lexeme_len s.ahead) s in
    let rest : Lexed = lex_from (past (lexeme_len s.ahead) s) in
    rw (is, at) (ap (λ ts. record { tokens = ts; ending = rest.ending }) (append_assoc found (first ∷ []) rest.tokens)
    ∙ sym (ap (behind found) (lex_token s some e f)) ∙ kept)

pub goes_past : (found : List Token) (s u : Front) (l : Lexed) → length s.ahead ≢ 0 → ignored_len s.ahead ≢ 0 → u ≡ past (ignored_len s.ahead) s
    → behind found (lex_from s) ≡ l → behind found (lex_from u) ≡ l
goes_past found s u l some e at kept = rw at (sym (ap (behind found) (lex_ignored s some e)) ∙ kept)
