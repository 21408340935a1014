-- What the rules of reading say at each step of the parser.
use Rattle.std.proofs.Common.{◌≡◌, ◌≢◌, ℕ, zero, suc, ◌-◌, Bool, true, false, List, [], ◌∷◌, length, Some, None, refl, sym, ap, ap₂, ◌∙◌, arith}
use Rattle.std.proofs.lemmas.Bool.{false≢true}
use Rattle.graphql_spec.specs.Positions.{Position, Span, Spanned}
use Rattle.graphql_spec.specs.Inputs as spec
use Rattle.graphql_spec.specs.Inputs.{Input}
use Rattle.graphql_spec.specs.Tokens.{Lexeme, mark, name, int, string, Token}
use Rattle.graphql_spec.specs.Grammar.{At, begin_of, span_of}
use Rattle.juniper_language.specs.Readers.{Reader, and_then, pure, next, next_from, is_mark_of, first_is, sees, expect, until, some_until, spanned, name_by}
use Rattle.juniper_language.specs.Readers.{a_name, ◌>>=◌}
use Rattle.juniper_language.specs.Reading.{value, value_by, bracketed, argument, items_of, fields_of, list_within, object_within, type_ref, list_type}
use Rattle.juniper_language.specs.Reading.{named_type, in_brackets, inside_of, selections, selection, selections_of, first_word, by_word, behind_word, kind_of}
use Rattle.juniper_language.specs.Reading.{start_of}

-- ## Values

pub value_is : (c : Bool) (n : ℕ) (s : At) → value c n s ≡ and_then (next s) (λ t. value_by c (list_within c n) (object_within c n) t.lexeme)
unfolding value
value_is c zero s = refl
value_is c (suc n) s = refl

pub list_at : (c : Bool) (n : ℕ) (s : At) → n ≢ 0 → list_within c n s
    ≡ and_then (until 93 (spanned (value c (n - 1))) (length s.ahead) s) (λ vs. pure (spec.list (items_of vs)))
list_at c zero s some = absurd (some refl)
list_at c (suc n) s some = let less : suc n - 1 ≡ n = omega arith in rw less refl

pub object_at : (c : Bool) (n : ℕ) (s : At) → n ≢ 0 → object_within c n s
    ≡ and_then (until 125 (argument c (n - 1)) (length s.ahead) s) (λ xs. pure (spec.object (fields_of xs)))
unfolding argument
object_at c zero s some = absurd (some refl)
object_at c (suc n) s some = let less : suc n - 1 ≡ n = omega arith in rw less refl

-- a list whose values are read
pub list_found : (c : Bool) (n m : ℕ) (s t : At) (vs : List (Spanned Input)) (v : Input) → m ≡ 91 → n ≢ 0 →
    until 93 (spanned (value c (n - 1))) (length s.ahead) s ≡ Some (vs, t) → v ≡ spec.list (items_of vs)
    → bracketed c (list_within c n) (object_within c n) m s ≡ Some (v, t)
list_found c n m s t vs v opens some found is = rw (opens, list_at c n s some, found, is) refl

-- ## Types

no_name : (m : ℕ) (l : Lexeme) (place : Span) (s : At) → is_mark_of m l ≡ true → name_by l place s ≡ None
no_name m (mark c) place s e = refl
no_name m (name w) place s e = absurd (false≢true e)
no_name m (int w) place s e = absurd (false≢true e)
no_name m (string w) place s e = absurd (false≢true e)

mark_no_name : (m : ℕ) (last : Position) (ts : List Token) → first_is m ts ≡ true → and_then (next_from last ts) (λ t. name_by t.lexeme t.span) ≡ None
mark_no_name m last [] e = refl
mark_no_name m last (t ∷ ts) e = no_name m t.lexeme t.span (record { last = t.span.end; ahead = ts }) e

pub type_name : (n : ℕ) (s : At) → sees 91 s ≡ false → type_ref n s ≡ named_type s
unfolding type_ref
type_name zero s other = refl
type_name (suc n) s other = rw other refl

pub type_list : (n : ℕ) (s : At) → sees 91 s ≡ true → n ≢ 0 → type_ref n s ≡ and_then (next s) (λ t. list_type (type_ref (n - 1)))
unfolding type_ref
type_list zero s there some = absurd (some refl)
type_list (suc n) s there some = let less : suc n - 1 ≡ n = omega arith in rw (less, there) refl

pub type_deep : (s : At) → sees 91 s ≡ true → type_ref 0 s ≡ None
unfolding type_ref a_name
type_deep s there = rw (mark_no_name 91 s.last s.ahead there) refl

-- ## Parts in brackets

pub brackets_at : {A : Type 0} (p : ℕ → Reader A) (n : ℕ) (s : At) → n ≢ 0 → in_brackets p n s ≡ spanned (expect 40 >>= (λ u. some_until 41 (p (n - 1)))) s
brackets_at p zero s some = absurd (some refl)
brackets_at p (suc n) s some = let less : suc n - 1 ≡ n = omega arith in rw less refl

-- ## Selections

pub inside_at : (n : ℕ) (s : At) → n ≢ 0 → inside_of n s ≡ selections (n - 1) s
inside_at zero s some = absurd (some refl)
inside_at (suc n) s some = let less : suc n - 1 ≡ n = omega arith in rw less refl

pub selections_is : (n : ℕ) (s : At) → selections n s ≡ and_then (some_until 125 (selection n (inside_of n)) s) (λ xs. pure (selections_of xs))
unfolding selections
selections_is zero s = refl
selections_is (suc n) s = refl

-- ## Definitions

word_from : (n : ℕ) (last : Position) (l : Lexeme) (place : Span) (ts : List Token) (start : Position) →
    by_word n (first_word (record { lexeme = l; span = place } ∷ ts)) (record { last = last; ahead = record { lexeme = l; span = place } ∷ ts })
    ≡ and_then (a_name (record { last = last; ahead = record { lexeme = l; span = place } ∷ ts }))
    (λ x. behind_word n (start_of (record { last = last; ahead = record { lexeme = l; span = place } ∷ ts })) x.item (kind_of x.item))
unfolding a_name
word_from n last (mark m) place ts start = refl
word_from n last (name w) place ts start = refl
word_from n last (int w) place ts start = refl
word_from n last (string w) place ts start = refl

pub word_at : (n : ℕ) (s : At) → by_word n (first_word s.ahead) s ≡ and_then (a_name s) (λ x. behind_word n (start_of s) x.item (kind_of x.item))
unfolding a_name
word_at n s = go s.last s.ahead
  where
    go : (last : Position) (ts : List Token) → by_word n (first_word ts) (record { last = last; ahead = ts })
        ≡ and_then (a_name (record { last = last; ahead = ts })) (λ x. behind_word n (start_of (record { last = last; ahead = ts })) x.item (kind_of x.item))
    go last [] = refl
    go last (t ∷ ts) = word_from n last t.lexeme t.span ts last

-- parts in brackets that are read
pub brackets_found : {A : Type 0} (p : ℕ → Reader A) (n : ℕ) (s a t : At) (u : Unit {0}) (xs : List A) (v : Spanned (List A)) (start : Position) → n ≢ 0 →
    expect 40 s ≡ Some (u, a) → some_until 41 (p (n - 1)) a ≡ Some (xs, t)
    → v.item ≡ xs → v.span ≡ record { start = start; end = t.last } → start ≡ begin_of s.last s.ahead → in_brackets p n s ≡ Some (v, t)
unfolding span_of
brackets_found p n s a t u xs v start some begun read items place first =
    brackets_at p n s some ∙ rw (begun, read) (ap₂ (λ is sp. Some (record { item = is; span = sp }, t)) (sym items)
    (sym (place ∙ ap (λ b. record { start = b; end = t.last }) first)))

-- no bracket may be opened
pub brackets_deep : {A : Type 0} (p : ℕ → Reader A) (n : ℕ) (s : At) → n ≡ 0 → in_brackets p n s ≡ None
brackets_deep p n s deep = rw deep refl
