-- What each step of reading says of the tokens.
use Rattle.std.proofs.Common.{inl, inr, ◌≡◌, ◌⊎◌, ℕ, zero, suc, ◌<◌, ◌≤◌, ◌==◌, Bool, true, false, cond, List, [], ◌∷◌, length, Some, None, refl, ap, sym, ◌∙◌}
use Rattle.std.proofs.Common.{subst, arith}
use Rattle.std.proofs.lemmas.Option.{none-some, same_Some}
use Rattle.std.proofs.lemmas.Bool.{eqb-true, eq-eqb, false≢true}
use Rattle.graphql_spec.specs.Positions.{Position, Span, Spanned}
use Rattle.graphql_spec.specs.Tokens.{Lexeme, mark, name, int, string, Token}
use Rattle.graphql_spec.specs.Documents.{Word}
use Rattle.graphql_spec.specs.Grammar.{At, Takes, Mark, IsWord, span_of, Many}
use Rattle.juniper_language.specs.Readers.{Outcome, Reader, and_then, pure, refuse, next, next_from, is_mark_of, first_is, sees, expect, name_by, a_name}
use Rattle.juniper_language.specs.Readers.{with_span, while_sees, until}

-- what a reader of two steps read
pub bind_some : {A B : Type 0} (o : Outcome A) (f : A → Reader B) (y : B × At) → and_then o f ≡ Some y → (p : A × At) × (o ≡ Some p) × (f p.0 p.1 ≡ Some y)
bind_some None f y e = absurd (none-some y e)
bind_some (Some p) f y e = (p, refl, e)

pub pure_some : {A : Type 0} (x y : A) (s t : At) → ◌≡◌ {A = Outcome A} (Some (x, s)) (Some (y, t)) → (x ≡ y) × (s ≡ t)
pure_some x y s t e = (ap (λ p. p.0) (same_Some (x, s) (y, t) e), ap (λ p. p.1) (same_Some (x, s) (y, t) e))

-- what was made holds of what was read
pub from_pure : {A : Type 0} (P : A → At → Type 0) (x y : A) (s t : At) → ◌≡◌ {A = Outcome A} (Some (x, s)) (Some (y, t)) → P x s → P y t
from_pure P x y s t e h = let same = pure_some x y s t e in subst (λ z. P z t) same.0 (subst (λ u. P x u) same.1 h)

-- which way a test went
pub chosen : {A : Type 0} (b : Bool) (x y : Outcome A) (z : A × At) → cond b x y ≡ Some z → ((b ≡ true) × (x ≡ Some z)) ⊎ ((b ≡ false) × (y ≡ Some z))
chosen true x y z e = inl (refl, e)
chosen false x y z e = inr (refl, e)

pub picked : {A : Type 0} (b : Bool) (p q : Reader A) (s : At) (z : A × At) → cond b p q s ≡ Some z →
    ((b ≡ true) × (p s ≡ Some z)) ⊎ ((b ≡ false) × (q s ≡ Some z))
picked true p q s z e = inl (refl, e)
picked false p q s z e = inr (refl, e)

next_from_is : (last : Position) (ts : List Token) (p : Token × At) → next_from last ts ≡ Some p → (ts ≡ p.0 ∷ p.1.ahead) × (p.1.last ≡ p.0.span.end)
next_from_is last [] p e = absurd (none-some p e)
next_from_is last (t ∷ ts) p e =
    let same = same_Some (t, record { last = t.span.end; ahead = ts }) p e in
    (ap (λ q. q.0 ∷ q.1.ahead) same, sym (ap (λ q. q.1.last) same) ∙ ap (λ q. q.0.span.end) same)

pub next_takes : (s : At) (p : Token × At) → next s ≡ Some p → Takes p.0.lexeme p.0.span s p.1
next_takes s p e = let h = next_from_is s.last s.ahead p e in record { token = h.0; last = h.1 }

pub takes_next : (l : Lexeme) (place : Span) (s t : At) → Takes l place s t → next s ≡ Some (record { lexeme = l; span = place }, t)
takes_next l place s t h = rw h.token (rw (← h.last) refl)

pub fewer : (l : Lexeme) (place : Span) (s t : At) → Takes l place s t → length t.ahead < length s.ahead
fewer l place s t h = rw h.token (omega arith)

-- ---- punctuators

pub mark_is : (m : ℕ) (l : Lexeme) → is_mark_of m l ≡ true → l ≡ mark m
mark_is m (mark c) e = ap mark (eqb-true c m e)
mark_is m (name w) e = absurd (false≢true e)
mark_is m (int w) e = absurd (false≢true e)
mark_is m (string w) e = absurd (false≢true e)

pub mark_seen : (m : ℕ) (s t : At) → Mark m s t → sees m s ≡ true
mark_seen m s t (place, h) = rw h.token (eq-eqb m m refl)

pub other_seen : (m k : ℕ) (s t : At) → m == k ≡ false → Mark m s t → sees k s ≡ false
other_seen m k s t e (place, h) = rw h.token e

first_takes : (m : ℕ) (last : Position) (ts : List Token) (p : Token × At) → first_is m ts ≡ true → next_from last ts ≡ Some p → is_mark_of m p.0.lexeme ≡ true
first_takes m last [] p e h = absurd (false≢true e)
first_takes m last (t ∷ ts) p e h = ap (λ q. is_mark_of m q.0.lexeme) (sym (same_Some (t, record { last = t.span.end; ahead = ts }) p h)) ∙ e

pub taken_mark : (m : ℕ) (s : At) (p : Token × At) → next s ≡ Some p → is_mark_of m p.0.lexeme ≡ true → Mark m s p.1
taken_mark m s p e is = (p.0.span, subst (λ l. Takes l p.0.span s p.1) (mark_is m p.0.lexeme is) (next_takes s p e))

pub seen_mark : (m : ℕ) (s : At) (p : Token × At) → sees m s ≡ true → next s ≡ Some p → Mark m s p.1
seen_mark m s p seen e = taken_mark m s p e (first_takes m s.last s.ahead p seen e)

pub expect_sound : (m : ℕ) (s t : At) (u : Unit {0}) → expect m s ≡ Some (u, t) → Mark m s t
unfolding expect
expect_sound m s t u e =
    let q = bind_some (next s) _ (u, t) e in
    elim (picked (is_mark_of m q.0.0.lexeme) (pure tt) refuse q.0.1 (u, t) q.2) [
      | inl here ↦ subst (λ x. Mark m s x) (pure_some tt u q.0.1 t here.1).1 (taken_mark m s q.0 q.1 here.0)
      | inr other ↦ absurd (none-some (u, t) other.1)
    ]

pub expect_read : (m : ℕ) (s t : At) → Mark m s t → expect m s ≡ Some (tt, t)
unfolding expect
expect_read m s t (place, h) = rw (takes_next (mark m) place s t h, eq-eqb m m refl) refl

-- ---- names

named_sound : (l : Lexeme) (place : Span) (s a t : At) (x : Word) → Takes l place s a → name_by l place a ≡ Some (x, t) → IsWord x s t
named_sound (mark m) place s a t x h e = absurd (none-some (x, t) e)
named_sound (name w) place s a t x h e =
    let same = pure_some (record { item = w; span = place }) x a t e in
    subst (λ y. IsWord y s t) same.0 (subst (λ u. Takes (name w) place s u) same.1 h)
named_sound (int w) place s a t x h e = absurd (none-some (x, t) e)
named_sound (string w) place s a t x h e = absurd (none-some (x, t) e)

pub name_sound : (s t : At) (x : Word) → a_name s ≡ Some (x, t) → IsWord x s t
unfolding a_name
name_sound s t x e = let q = bind_some (next s) _ (x, t) e in named_sound q.0.0.lexeme q.0.0.span s q.0.1 t x (next_takes s q.0 q.1) q.2

pub name_read : (x : Word) (s t : At) → IsWord x s t → a_name s ≡ Some (x, t)
unfolding a_name
name_read x s t h = rw (takes_next (name x.item) x.span s t h) refl

pub name_first : (m : ℕ) (x : Word) (s t : At) → IsWord x s t → sees m s ≡ false
name_first m x s t h = rw h.token refl

-- ---- places

pub spanned_is : {A : Type 0} (s : At) (o : Outcome A) (p : Spanned A × At) → with_span s o ≡ Some p → (o ≡ Some (p.0.item, p.1)) × (p.0.span ≡ span_of s p.1)
spanned_is s None p e = absurd (none-some p e)
spanned_is s (Some q) p e =
    let same = same_Some (record { item = q.0; span = span_of s q.1 }, q.1) p e in
    (ap (λ r. Some (r.0.item, r.1)) same, sym (ap (λ r. r.0.span) same) ∙ ap (λ r. span_of s r.1) same)

-- ---- parts

-- what reads is in the relation
abbrev pub IsSound : {A : Type 0} → Reader A → (A → At → At → Type 0) → Type 0
IsSound {A} p R = (s t : At) (x : A) → p s ≡ Some (x, t) → R x s t

pub while_sound : {A : Type 0} (m : ℕ) (p : Reader A) (R : A → At → At → Type 0) → IsSound p R → (k : ℕ) → IsSound (while_sees m p k) (Many R)
unfolding while_sees
while_sound m p R sound zero s t xs e = let same = pure_some [] xs s t e in subst (λ ys. Many R ys s t) same.0 same.1
while_sound m p R sound (suc k) s t xs e = elim (chosen (sees m s) _ _ (xs, t) e) [
  | inl more ↦
      let q = bind_some (p s) _ (xs, t) more.1 in
      let r = bind_some (while_sees m p k q.0.1) (λ ys. pure (q.0.0 ∷ ys)) (xs, t) q.2 in
      let same = pure_some (q.0.0 ∷ r.0.0) xs r.0.1 t r.2 in
      let rest : Many R r.0.0 q.0.1 t = subst (λ u. Many R r.0.0 q.0.1 u) same.1 (while_sound m p R sound k q.0.1 r.0.1 r.0.0 r.1) in
      subst (λ ys. Many R ys s t) same.0 (q.0.1, sound s q.0.1 q.0.0 q.1, rest)
  | inr done ↦ let same = pure_some [] xs s t done.1 in subst (λ ys. Many R ys s t) same.0 same.1
]

-- parts, and the mark behind them
abbrev pub Closed : {A : Type 0} → ℕ → (A → At → At → Type 0) → List A → At → At → Type 0
Closed m R xs s t = (b : At) × Many R xs s b × Mark m b t

pub until_sound : {A : Type 0} (m : ℕ) (p : Reader A) (R : A → At → At → Type 0) → IsSound p R → (k : ℕ) → IsSound (until m p k) (Closed m R)
unfolding until
until_sound m p R sound zero s t xs e = absurd (none-some (xs, t) e)
until_sound m p R sound (suc k) s t xs e = elim (chosen (sees m s) _ _ (xs, t) e) [
  | inl last ↦
      let q = bind_some (next s) _ (xs, t) last.1 in
      let same = pure_some [] xs q.0.1 t q.2 in
      subst (λ y. Closed m R y s t) same.0 (s, refl, subst (λ u. Mark m s u) same.1 (seen_mark m s q.0 last.0 q.1))
  | inr more ↦
      let q = bind_some (p s) _ (xs, t) more.1 in
      let r = bind_some (until m p k q.0.1) (λ ys. pure (q.0.0 ∷ ys)) (xs, t) q.2 in
      let same = pure_some (q.0.0 ∷ r.0.0) xs r.0.1 t r.2 in
      let rest = until_sound m p R sound k q.0.1 r.0.1 r.0.0 r.1 in
      subst (λ y. Closed m R y s t) same.0 (rest.0, (q.0.1, sound s q.0.1 q.0.0 q.1, rest.1), subst (λ u. Mark m rest.0 u) same.1 rest.2)
]

-- a part is read, of one token at least, and begins with the mark or not
pub record IsPart {A : Type 0} (m : ℕ) (b : Bool) (p : Reader A) (x : A) (s t : At) : Type 0 where
  pub reads : p s ≡ Some (x, t)
  pub less : length t.ahead < length s.ahead
  pub first : sees m s ≡ b

pub while_read : {A : Type 0} (m : ℕ) (p : Reader A) (xs : List A) (k : ℕ) (s t : At) → Many (IsPart m true p) xs s t → sees m t ≡ false → length s.ahead ≤ k →
    while_sees m p k s ≡ Some (xs, t)
unfolding while_sees
while_read m p [] zero s t h ends enough = ap (λ u. Some ([], u)) h
while_read m p [] (suc k) s t h ends enough = let other : sees m s ≡ false = subst (λ u. sees m u ≡ false) (sym h) ends in rw other (ap (λ u. Some ([], u)) h)
while_read m p (x ∷ xs) zero s t h ends enough = absurd (omega (arith, h.1.less))
while_read m p (x ∷ xs) (suc k) s t h ends enough =
    let rest = while_read m p xs k h.0 t h.2 ends (omega (arith, h.1.less)) in
    rw (h.1.first, h.1.reads) (ap (λ o. and_then o (λ ys. pure (x ∷ ys))) rest)

pub until_read : {A : Type 0} (m : ℕ) (p : Reader A) (xs : List A) (k : ℕ) (s b t : At) → Many (IsPart m false p) xs s b → Mark m b t → length s.ahead ≤ k →
    until m p k s ≡ Some (xs, t)
unfolding until
until_read m p [] zero s b t h last enough = absurd (omega (arith, fewer (mark m) last.0 b t last.1, ap (λ (u : At). length u.ahead) h))
until_read m p [] (suc k) s b t h last enough =
    let here : Mark m s t = subst (λ u. Mark m u t) (sym h) last in
    rw (mark_seen m s t here, takes_next (mark m) here.0 s t here.1) refl
until_read m p (x ∷ xs) zero s b t h last enough = absurd (omega (arith, h.1.less))
until_read m p (x ∷ xs) (suc k) s b t h last enough =
    let rest = until_read m p xs k h.0 b t h.2 last (omega (arith, h.1.less)) in
    rw (h.1.first, h.1.reads) (ap (λ o. and_then o (λ ys. pure (x ∷ ys))) rest)

pub many_map : {A : Type 0} (R Q : A → At → At → Type 0) → ((x : A) (s t : At) → R x s t → Q x s t) → (xs : List A) (s t : At) → Many R xs s t → Many Q xs s t
many_map R Q f [] s t h = h
many_map R Q f (x ∷ xs) s t h = (h.0, f x s h.0 h.1, many_map R Q f xs h.0 t h.2)

pub many_fewer : {A : Type 0} (m : ℕ) (b : Bool) (p : Reader A) (xs : List A) (s t : At) → Many (IsPart m b p) xs s t → length t.ahead ≤ length s.ahead
many_fewer m b p [] s t h = omega (arith, ap (λ (u : At). length u.ahead) h)
many_fewer m b p (x ∷ xs) s t h = omega (arith, h.1.less, many_fewer m b p xs h.0 t h.2)
