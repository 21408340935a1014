-- The names of a document that a text spells: each is that of a name token, which is a Name.
use Rattle.std.specs.Prelude.{◌≡◌, ◌≢◌, ℕ, zero, suc, Bool, true, false, ◌&&◌, codes, List, [], ◌∷◌, Option, Some, None}
use Rattle.std.specs.List.{list_all}
use Rattle.std.proofs.lemmas.Bool.{and_from, and_parts}
use Rattle.std.proofs.Common.{refl, inl, inr, subst}
use Rattle.graphql_spec.specs.Shown.{Name, int, text, boolean}
use Rattle.graphql_spec.specs.Positions.{Span, Spanned, Spot, walk, beginning, origin}
use Rattle.graphql_spec.specs.Types.{TypeRef, named, list_of, innermost}
use Rattle.graphql_spec.specs.Inputs.{Input, null, scalar, enumerated, variable, list, object, InputItems, no_items, item, InputFields, no_fields, input_field}
use Rattle.graphql_spec.specs.Documents.{Word, Argument, Arguments, Directive, Head, Spread, Inline, Selections, end, field, spread, inline, VariableDefinition}
use Rattle.graphql_spec.specs.Documents.{Operation, Fragment, Definition, operation, fragment, Document, written, variables_of}
use Rattle.graphql_spec.specs.Tokens as token
use Rattle.graphql_spec.specs.Tokens.{Lexeme, Token, IsText, IsToken, is_name, dots}
use Rattle.graphql_spec.specs.Grammar.{At, Takes, Mark, Keyword, IsWord, Opt, Many, Between, true_word, false_word, null_word, on_word, boolean_word}
use Rattle.graphql_spec.specs.Grammar.{IsEnumName, IsValue, AreItems, AreFields, Bang, IsType, IsArgument, IsArguments, IsDirective, AreDirectives, Set, OptSet}
use Rattle.graphql_spec.specs.Grammar.{Alias, IsField, IsSpread, TypeCondition, IsInline, AreSelections, Default, IsVariable, AreVariables, kind_word}
use Rattle.graphql_spec.specs.Grammar.{IsOperation, IsFragment, IsDefinition, most_brackets, Spells}
use Rattle.graphql_spec.specs.WellFormed.{is_enum_name, is_named, items_are_named, fields_are_named}
use Rattle.graphql_spec.specs.WellFormedDocuments.{is_none_or, word_is_named, is_fragment_name, argument_is_named, arguments_are_named, directive_is_named}
use Rattle.graphql_spec.specs.WellFormedDocuments.{directives_are_named, head_is_named, spread_is_named, inline_is_named, selections_are_named, type_is_named}
use Rattle.graphql_spec.specs.WellFormedDocuments.{variable_is_named, operation_is_named, fragment_is_named, definition_is_named, document_is_named}
use Rattle.graphql_spec.proofs.Lists.{same_or}

pub both : {x y : Bool} → x ≡ true → y ≡ true → (x && y) ≡ true
both {x} {y} p q = and_from x y p q

-- ## Tokens

-- a name token's word is a Name
abbrev Named : Lexeme → Type 0
Named (token.mark m) = Unit {0}
Named (token.name w) = is_name w ≡ true
Named (token.int w) = Unit {0}
Named (token.string raw) = Unit {0}

-- so it is with all of these tokens
abbrev AllNamed : List Token → Type 0
AllNamed [] = Unit {0}
AllNamed (t ∷ ts) = Named t.lexeme × AllNamed ts

token-named : (l : Lexeme) (word : List ℕ) (rest : List ℕ) → IsToken l word rest → Named l
token-named (token.mark m) word rest k = tt
token-named (token.name w) word rest k = k.1
token-named (token.int w) word rest k = tt
token-named (token.string raw) word rest k = tt

text-named : (at : Spot) (ts : List Token) (bytes : List ℕ) → IsText at ts bytes → AllNamed ts
text-named at [] bytes h = tt
text-named at (t ∷ ts) bytes (gap, word, rest, e, i, k, p, q, r) = (token-named t.lexeme word rest k, text-named (walk (walk at gap) word) ts rest r)

-- the test holds, and the tokens left are still named
abbrev Reads : Bool → At → Type 0
Reads b t = (b ≡ true) × AllNamed t.ahead

takes-named : (l : Lexeme) (place : Span) (s t : At) → Takes l place s t → AllNamed s.ahead → Named l × AllNamed t.ahead
takes-named l place s t h w = subst AllNamed h.token w

mark-named : (m : ℕ) (s t : At) → Mark m s t → AllNamed s.ahead → AllNamed t.ahead
mark-named m s t (place, h) w = (takes-named (token.mark m) place s t h w).1

keyword-named : (x : Name) (s t : At) → Keyword x s t → AllNamed s.ahead → Reads (is_name x) t
keyword-named x s t (place, h) w = takes-named (token.name x) place s t h w

word-named : (x : Word) (s t : At) → IsWord x s t → AllNamed s.ahead → Reads (word_is_named x) t
unfolding word_is_named
word-named x s t h w = takes-named (token.name x.item) x.span s t h w

-- ## What every rule is made of

same-named : (s t : At) → s ≡ t → AllNamed s.ahead → AllNamed t.ahead
same-named s t e w = subst (λ z. AllNamed z.ahead) e w

opt-named : {A : Type 0} (R : A → At → At → Type 0) (test : A → Bool) → ((x : A) (s t : At) → R x s t → AllNamed s.ahead → Reads (test x) t)
    → (o : Option A) (s t : At) → Opt R o s t → AllNamed s.ahead → Reads (is_none_or test o) t
unfolding is_none_or
opt-named R test each None s t h w = (refl, same-named s t h w)
opt-named R test each (Some x) s t h w = each x s t h w

many-named : {A : Type 0} (R : A → At → At → Type 0) (test : A → Bool) → ((x : A) (s t : At) → R x s t → AllNamed s.ahead → Reads (test x) t)
    → (xs : List A) (s t : At) → Many R xs s t → AllNamed s.ahead → Reads (list_all test xs) t
many-named R test each [] s t h w = (refl, same-named s t h w)
many-named R test each (x ∷ xs) s t (a, h, r) w = let p = each x s a h w in let q = many-named R test each xs a t r p.1 in (both p.0 q.0, q.1)

between-named : {A : Type 0} (opens closes : ℕ) (R : ℕ → A → At → At → Type 0) (test : A → Bool) →
    ((n : ℕ) (x : A) (s t : At) → R n x s t → AllNamed s.ahead → Reads (test x) t)
    → (xs : List A) (n : ℕ) (s t : At) → Between opens closes R xs n s t → AllNamed s.ahead → Reads (list_all test xs) t
between-named opens closes R test each [] n s t h w = absurd h
between-named opens closes R test each (x ∷ xs) zero s t h w = absurd h
between-named opens closes R test each (x ∷ xs) (suc n) s t (a, b, o, m, c) w =
    let p = many-named (R n) test (each n) (x ∷ xs) a b m (mark-named opens s a o w) in (p.0, mark-named closes b t c p.1)

-- ## Values

-- w is none of the three words
enum-name : (w : Name) → is_name w ≡ true → IsEnumName w → is_enum_name w ≡ true
unfolding is_enum_name
enum-name w e n = elim (same_or w true_word) [
  | inl p ↦ absurd (n.not_true p.1)
  | inr p ↦ elim (same_or w false_word) [
    | inl q ↦ absurd (n.not_false q.1)
    | inr q ↦ elim (same_or w null_word) [
      | inl r ↦ absurd (n.not_null r.1)
      | inr r ↦ rw (e, p, q, r) refl
    ]
  ]
]

mutual
  unfolding is_named items_are_named fields_are_named

  value-named : (c : Bool) (v : Input) (n : ℕ) (s t : At) → IsValue c v n s t → AllNamed s.ahead → Reads (is_named v) t
  value-named c null n s t h w = (refl, (keyword-named null_word s t h w).1)
  value-named c (scalar (int i)) n s t (x, place, h, d) w = (refl, (takes-named (token.int x) place s t h w).1)
  value-named c (scalar (text x)) n s t (raw, place, h, d) w = (refl, (takes-named (token.string raw) place s t h w).1)
  value-named c (scalar (boolean b)) n s t h w = (refl, (keyword-named (boolean_word b) s t h w).1)
  value-named c (enumerated x) n s t (h, e) w = let p = keyword-named x s t h w in (enum-name x p.0 e, p.1)
  value-named c (variable x) n s t (e, a, m, h) w = keyword-named x a t h (mark-named 36 s a m w)
  value-named c (list is) zero s t h w = absurd h
  value-named c (list is) (suc n) s t (a, b, o, h, e) w = let p = items-named c is n a b h (mark-named 91 s a o w) in (p.0, mark-named 93 b t e p.1)
  value-named c (object fs) zero s t h w = absurd h
  value-named c (object fs) (suc n) s t (a, b, o, h, e) w = let p = fields-named c fs n a b h (mark-named 123 s a o w) in (p.0, mark-named 125 b t e p.1)

  items-named : (c : Bool) (is : InputItems) (n : ℕ) (s t : At) → AreItems c is n s t → AllNamed s.ahead → Reads (items_are_named is) t
  items-named c no_items n s t h w = (refl, same-named s t h w)
  items-named c (item v at rest) n s t (a, h, e, r) w = let p = value-named c v n s a h w in let q = items-named c rest n a t r p.1 in (both p.0 q.0, q.1)

  fields-named : (c : Bool) (fs : InputFields) (n : ℕ) (s t : At) → AreFields c fs n s t → AllNamed s.ahead → Reads (fields_are_named fs) t
  fields-named c no_fields n s t h w = (refl, same-named s t h w)
  fields-named c (input_field k k_at v v_at rest) n s t (a, b, d, h, m, i, e, r) w =
      let o = takes-named (token.name k) k_at s a h w in
      let p = value-named c v n b d i (mark-named 58 a b m o.1) in
      let q = fields-named c rest n d t r p.1 in (both o.0 (both p.0 q.0), q.1)

-- ## Types

bang-named : (r : Bool) (s t : At) → Bang r s t → AllNamed s.ahead → AllNamed t.ahead
bang-named true s t h w = mark-named 33 s t h w
bang-named false s t h w = same-named s t h w

type-named : (u : TypeRef) (n : ℕ) (s t : At) → IsType u n s t → AllNamed s.ahead → Reads (type_is_named u) t
unfolding type_is_named innermost
type-named (named r name) n s t (a, h, m) w = let p = keyword-named name s a h w in (p.0, bang-named r a t m p.1)
type-named (list_of r size u) zero s t h w = absurd h
type-named (list_of r size u) (suc n) s t (none, a, b, d, o, h, e, m) w =
    let p = type-named u n a b h (mark-named 91 s a o w) in (p.0, bang-named r d t m (mark-named 93 b d e p.1))

-- ## Arguments and directives

argument-named : (c : Bool) (n : ℕ) (x : Argument) (s t : At) → IsArgument c n x s t → AllNamed s.ahead → Reads (argument_is_named x) t
unfolding argument_is_named word_is_named
argument-named c n x s t (a, b, h, m, v, e) w =
    let p = word-named x.name s a h w in
    let q = value-named c x.value.item n b t v (mark-named 58 a b m p.1) in (both p.0 q.0, q.1)

arguments-named : (c : Bool) (n : ℕ) (as' : Arguments) (s t : At) → Opt (IsArguments c n) as' s t → AllNamed s.ahead → Reads (arguments_are_named as') t
unfolding arguments_are_named written
arguments-named c n None s t h w = (refl, same-named s t h w)
arguments-named c n (Some as') s t (h, e) w = between-named 40 41 (IsArgument c) argument_is_named (argument-named c) as'.item n s t h w

directive-named : (c : Bool) (n : ℕ) (d : Directive) (s t : At) → IsDirective c n d s t → AllNamed s.ahead → Reads (directive_is_named d) t
unfolding directive_is_named word_is_named
directive-named c n d s t (a, b, m, h, o, e) w =
    let p = word-named d.name a b h (mark-named 64 s a m w) in
    let q = arguments-named c n d.arguments b t o p.1 in (both p.0 q.0, q.1)

directives-named : (c : Bool) (n : ℕ) (ds : List Directive) (s t : At) → AreDirectives c n ds s t → AllNamed s.ahead → Reads (directives_are_named ds) t
unfolding directives_are_named
directives-named c n ds s t h w = many-named (IsDirective c n) directive_is_named (directive-named c n) ds s t h w

-- ## Selections

-- what reads these selections finds them named
abbrev ReadsNamed : Selections → (ℕ → At → At → Type 0) → Type 0
ReadsNamed below inside = (n : ℕ) (s t : At) → inside n s t → AllNamed s.ahead → Reads (selections_are_named below) t

set-named : (below : Selections) (inside : ℕ → At → At → Type 0) → ReadsNamed below inside → (n : ℕ) (s t : At) → Set below inside n s t → AllNamed s.ahead
    → Reads (selections_are_named below) t
set-named below inside each zero s t h w = absurd h
set-named below inside each (suc n) s t (some, a, b, o, h, e) w = let p = each n a b h (mark-named 123 s a o w) in (p.0, mark-named 125 b t e p.1)

opt_set-named : (b : Bool) (below : Selections) (inside : ℕ → At → At → Type 0) → ReadsNamed below inside → (n : ℕ) (s t : At) → OptSet b below inside n s t →
    AllNamed s.ahead
    → Reads (selections_are_named below) t
unfolding selections_are_named
opt_set-named true below inside each n s t h w = set-named below inside each n s t h w
opt_set-named false below inside each n s t (none, e) w = (rw none refl, same-named s t e w)

alias-named : (x : Word) (s t : At) → Alias x s t → AllNamed s.ahead → Reads (word_is_named x) t
alias-named x s t (a, h, m) w = let p = word-named x s a h w in (p.0, mark-named 58 a t m p.1)

field-named : (h : Head) (below : Selections) (inside : ℕ → At → At → Type 0) → ReadsNamed below inside → (n : ℕ) (s t : At) → IsField h below inside n s t →
    AllNamed s.ahead
    → Reads (head_is_named h && selections_are_named below) t
unfolding head_is_named word_is_named
field-named h below inside each n s t (a, b, d, e, alias, name, arguments, directives, set, span) w =
    let p = opt-named Alias word_is_named alias-named h.alias s a alias w in
    let q = word-named h.name a b name p.1 in
    let r = arguments-named false n h.arguments b d arguments q.1 in
    let u = directives-named false n h.directives d e directives r.1 in
    let v = opt_set-named h.has_set below inside each n e t set u.1 in (both (both p.0 (both q.0 (both r.0 u.0))) v.0, v.1)

-- a name that is not `on`
fragment-name : (x : Name) → is_name x ≡ true → x ≢ on_word → is_fragment_name x ≡ true
unfolding is_fragment_name
fragment-name x e n = elim (same_or x on_word) [ inl p ↦ absurd (n p.1) | inr p ↦ rw (e, p) refl ]

spread-named : (x : Spread) (n : ℕ) (s t : At) → IsSpread x n s t → AllNamed s.ahead → Reads (spread_is_named x) t
unfolding spread_is_named word_is_named
spread-named x n s t (a, b, m, name, other, directives, span) w =
    let p = word-named x.name a b name (mark-named dots s a m w) in
    let q = directives-named false n x.directives b t directives p.1 in (both (fragment-name x.name.item p.0 other) q.0, q.1)

condition-named : (x : Word) (s t : At) → TypeCondition x s t → AllNamed s.ahead → Reads (word_is_named x) t
condition-named x s t (a, on, h) w = word-named x a t h (keyword-named on_word s a on w).1

inline-named : (x : Inline) (below : Selections) (inside : ℕ → At → At → Type 0) → ReadsNamed below inside → (n : ℕ) (s t : At) →
    IsInline x below inside n s t → AllNamed s.ahead
    → Reads (inline_is_named x && selections_are_named below) t
unfolding inline_is_named
inline-named x below inside each n s t (a, b, d, m, condition, directives, set, span) w =
    let p = opt-named TypeCondition word_is_named condition-named x.condition a b condition (mark-named dots s a m w) in
    let q = directives-named false n x.directives b d directives p.1 in
    let r = set-named below inside each n d t set q.1 in (both (both p.0 q.0) r.0, r.1)

-- the three of a selection with others below it and behind it
three : (x y z : Bool) → (x && y) ≡ true → z ≡ true → (x && (y && z)) ≡ true
three x y z p q = let r = and_parts x y p in both r.0 (both r.1 q)

selections-named : (x : Selections) (n : ℕ) (s t : At) → AreSelections x n s t → AllNamed s.ahead → Reads (selections_are_named x) t
unfolding selections_are_named
selections-named end n s t h w = (refl, same-named s t h w)
selections-named (field h below rest) n s t (a, f, r) w =
    let p = field-named h below (AreSelections below) (selections-named below) n s a f w in
    let q = selections-named rest n a t r p.1 in (three (head_is_named h) (selections_are_named below) (selections_are_named rest) p.0 q.0, q.1)
selections-named (spread x rest) n s t (a, f, r) w =
    let p = spread-named x n s a f w in
    let q = selections-named rest n a t r p.1 in (both p.0 q.0, q.1)
selections-named (inline x below rest) n s t (a, f, r) w =
    let p = inline-named x below (AreSelections below) (selections-named below) n s a f w in
    let q = selections-named rest n a t r p.1 in (three (inline_is_named x) (selections_are_named below) (selections_are_named rest) p.0 q.0, q.1)

-- ## Definitions

default-named : (n : ℕ) (v : Spanned Input) (s t : At) → Default n v s t → AllNamed s.ahead → Reads (is_named v.item) t
default-named n v s t (a, m, h, e) w = value-named true v.item n a t h (mark-named 61 s a m w)

variable-named : (n : ℕ) (v : VariableDefinition) (s t : At) → IsVariable n v s t → AllNamed s.ahead → Reads (variable_is_named v) t
unfolding variable_is_named
variable-named n v s t (a, b, d, e, f, dollar, name, name_at, colon, of_type, type_at, default, directives) w =
    let p = keyword-named v.name.item a b name (mark-named 36 s a dollar w) in
    let q = type-named v.of_type.item n d e of_type (mark-named 58 b d colon p.1) in
    let r = opt-named (Default n) (λ x. is_named x.item) (default-named n) v.default e f default q.1 in
    let u = directives-named true n v.directives f t directives r.1 in (both p.0 (both q.0 (both r.0 u.0)), u.1)

-- the variables of an operation, where any are written
variables-named : (o : Operation) (n : ℕ) (vs : Option (Spanned (List VariableDefinition))) (s t : At) → o.variables ≡ vs → Opt (AreVariables n) vs s t →
    AllNamed s.ahead
    → Reads (list_all variable_is_named (variables_of o)) t
unfolding variables_of
variables-named o n None s t i h w = (rw i refl, same-named s t h w)
variables-named o n (Some vs) s t i (h, e) w = rw i (between-named 40 41 IsVariable variable_is_named variable-named vs.item n s t h w)

operation-named : (o : Operation) (n : ℕ) (s t : At) → IsOperation o n s t → AllNamed s.ahead → Reads (operation_is_named o) t
unfolding operation_is_named is_none_or directives_are_named variables_of
operation-named o n s t (inl (kind, name, variables, directives, set), span) w =
    let p = set-named o.selections (AreSelections o.selections) (selections-named o.selections) n s t set w in (rw (name, variables, directives) p.0, p.1)
operation-named o n s t (inr (a, b, d, e, kind, name, variables, directives, set), span) w =
    let p = keyword-named (kind_word o.kind) s a kind w in
    let q = opt-named IsWord word_is_named word-named o.name a b name p.1 in
    let r = variables-named o n o.variables b d refl variables q.1 in
    let u = directives-named false n o.directives d e directives r.1 in
    let v = set-named o.selections (AreSelections o.selections) (selections-named o.selections) n e t set u.1 in (both q.0 (both r.0 (both u.0 v.0)), v.1)

fragment-named : (f : Fragment) (n : ℕ) (s t : At) → IsFragment f n s t → AllNamed s.ahead → Reads (fragment_is_named f) t
unfolding fragment_is_named word_is_named
fragment-named f n s t (a, b, d, e, begins, name, other, condition, directives, set, span) w =
    let p = word-named f.name a b name (keyword-named (codes "fragment") s a begins w).1 in
    let q = condition-named f.condition b d condition p.1 in
    let r = directives-named false n f.directives d e directives q.1 in
    let u = set-named f.selections (AreSelections f.selections) (selections-named f.selections) n e t set r.1 in
    (both (fragment-name f.name.item p.0 other) (both q.0 (both r.0 u.0)), u.1)

definition-named : (n : ℕ) (x : Definition) (s t : At) → IsDefinition n x s t → AllNamed s.ahead → Reads (definition_is_named x) t
unfolding definition_is_named
definition-named n (operation o) s t h w = operation-named o n s t h w
definition-named n (fragment f) s t h w = fragment-named f n s t h w

-- what a text spells is named
pub spelled_are_named : (bytes : List ℕ) (d : Document) → Spells bytes d → document_is_named d ≡ true
unfolding document_is_named
spelled_are_named bytes d (ts, is_text, (some, t, h, last)) =
    (many-named (IsDefinition most_brackets) definition_is_named (definition-named most_brackets) d (record { last = origin; ahead = ts }) t h
    (text-named beginning ts bytes is_text)).0
