-- Reading tokens: what every rule of the grammar is made of. Only private clauses cite it.
use Rattle.std.specs.Prelude.{◌≡◌, ◌≢◌, ℕ, zero, suc, Bool, false, ◌==◌, cond, List, [], ◌∷◌, ◌++◌, length, Option, Some, None, Result, Ok, Err}
use Rattle.graphql_spec.specs.Positions.{Position, Span, Spanned}
use Rattle.graphql_spec.specs.Tokens as token
use Rattle.graphql_spec.specs.Tokens.{Lexeme, Token}
use Rattle.graphql_spec.specs.Documents.{Word}
use Rattle.graphql_spec.specs.Grammar.{At, span_of}
use Rattle.juniper_syntax.specs.declared.error.ParseError.{ParseError}
use Rattle.juniper_syntax.specs.declared.error.ParseError.TheVariants.{Memory}
use Rattle.juniper_syntax.specs.declared.position.Span as code
use Rattle.juniper_syntax.specs.declared.position.Spanning.{Spanning}

-- what is read and where a reader stands after it, if anything is read
abbrev pub Outcome : Type 0 → Type 0
Outcome A = Option (A × At)

abbrev pub Reader : Type 0 → Type 0
Reader A = At → Outcome A

abbrev pub and_then : {A B : Type 0} → Outcome A → (A → Reader B) → Outcome B
and_then (Some p) f = f p.0 p.1
and_then None f = None

infixl 10 ◌>>=◌
abbrev pub ◌>>=◌ : {A B : Type 0} → Reader A → (A → Reader B) → Reader B
p >>= f = λ s. and_then (p s) f

abbrev pub pure : {A : Type 0} → A → Reader A
pure a = λ s. Some (a, s)

abbrev pub refuse : {A : Type 0} → Reader A
refuse s = None

-- ---- tokens

abbrev pub next_from : Position → List Token → Outcome Token
next_from last [] = None
next_from last (t ∷ ts) = Some (t, record { last = t.span.end; ahead = ts })

-- any token
abbrev pub next : Reader Token
next s = next_from s.last s.ahead

-- whether the token is this punctuator
abbrev pub is_mark_of : ℕ → Lexeme → Bool
is_mark_of m (token.mark c) = c == m
is_mark_of m (token.name w) = false
is_mark_of m (token.int w) = false
is_mark_of m (token.string w) = false

abbrev pub first_is : ℕ → List Token → Bool
first_is m [] = false
first_is m (t ∷ ts) = is_mark_of m t.lexeme

-- whether the next token is this punctuator
abbrev pub sees : ℕ → At → Bool
sees m s = first_is m s.ahead

-- this punctuator
unfoldable pub expect : ℕ → Reader (Unit {0})
expect m = next >>= (λ t. cond (is_mark_of m t.lexeme) (pure tt) refuse)

abbrev pub name_by : Lexeme → Span → Reader Word
name_by (token.mark m) place = refuse
name_by (token.name w) place = pure (record { item = w; span = place })
name_by (token.int w) place = refuse
name_by (token.string w) place = refuse

unfoldable pub a_name : Reader Word
a_name = next >>= (λ t. name_by t.lexeme t.span)

-- ---- what every rule is made of

abbrev pub with_span : {A : Type 0} → At → Outcome A → Outcome (Spanned A)
with_span s (Some p) = Some (record { item = p.0; span = span_of s p.1 }, p.1)
with_span s None = None

abbrev pub spanned : {A : Type 0} → Reader A → Reader (Spanned A)
spanned p s = with_span s (p s)

-- parts as long as each begins with the mark. The number bounds the turns, and each turn takes a token.
unfoldable pub while_sees : {A : Type 0} → ℕ → Reader A → ℕ → Reader (List A)
while_sees m p zero = pure []
while_sees m p (suc k) = λ s. cond (sees m s) ((p >>= (λ x. while_sees m p k >>= (λ xs. pure (x ∷ xs)))) s) (pure [] s)

-- parts up to the closing mark, which is taken. The number bounds the turns, and each turn takes a token.
unfoldable pub until : {A : Type 0} → ℕ → Reader A → ℕ → Reader (List A)
until m p zero = refuse
until m p (suc k) = λ s. cond (sees m s) ((next >>= (λ t. pure [])) s) ((p >>= (λ x. until m p k >>= (λ xs. pure (x ∷ xs)))) s)

-- one or more
unfoldable pub some_until : {A : Type 0} → ℕ → Reader A → Reader (List A)
some_until m p s = cond (sees m s) (refuse s) (until m p (length s.ahead) s)

-- it stands there where the mark does
abbrev pub optional : {A : Type 0} → ℕ → Reader A → Reader (Option A)
optional m p s = cond (sees m s) ((p >>= (λ x. pure (Some x))) s) (pure None s)

-- what a token stands for, if it stands for something
abbrev pub known : {A : Type 0} → Option A → Reader A
known (Some x) = pure x
known None = refuse

-- ---- what a function that reads ensures: what reading gives, unless there was no memory

abbrev pub Refuses : {A : Type 0} → Spanning ParseError code.Span → Outcome A → Type 0
Refuses e o = e.item ≢ Memory → o ≡ None

abbrev pub Gives : {X A : Type 0} → (X → A) → Result X (Spanning ParseError code.Span) → At → Outcome A → Type 0
Gives view (Ok x) t o = o ≡ Some (view x, t)
Gives view (Err e) t o = Refuses e o

-- ---- what a loop keeps: what it has found, put before what is still to be read

abbrev pub prepend : {A : Type 0} → List A → Outcome (List A) → Outcome (List A)
prepend front (Some p) = Some (front ++ p.0, p.1)
prepend front None = None
