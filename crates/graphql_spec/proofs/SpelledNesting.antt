-- The brackets of a document that a text spells: each rule opens one only where it still may.
use Rattle.std.specs.Prelude.{◌≡◌, ℕ, zero, suc, Bool, true, false, List, [], ◌∷◌, Option, Some, None}
use Rattle.std.specs.List.{list_all}
use Rattle.std.proofs.Common.{refl, inl, inr}
use Rattle.graphql_spec.specs.Positions.{Spanned, origin}
use Rattle.graphql_spec.specs.Types.{TypeRef, named, list_of}
use Rattle.graphql_spec.specs.Inputs.{Input, null, scalar, enumerated, variable, list, object, InputItems, no_items, item, InputFields, no_fields, input_field}
use Rattle.graphql_spec.specs.Documents.{Argument, Arguments, Directive, Selections, end, field, spread, inline, VariableDefinition, Operation, Fragment}
use Rattle.graphql_spec.specs.Documents.{Definition, operation, fragment, Document}
use Rattle.graphql_spec.specs.Grammar.{At, Opt, Many, Between, IsValue, AreItems, AreFields, IsType, IsArgument, IsArguments, IsDirective, AreDirectives, Set}
use Rattle.graphql_spec.specs.Grammar.{OptSet, AreSelections, Default, IsVariable, AreVariables, IsOperation, IsFragment, IsDefinition, most_brackets, Spells}
use Rattle.graphql_spec.specs.WellFormed.{nests, items_nest, fields_nest}
use Rattle.graphql_spec.specs.WellFormedDocuments.{is_none_or, nests_inside, argument_nests, arguments_nest, directive_nests, directives_nest, head_nests}
use Rattle.graphql_spec.specs.WellFormedDocuments.{in_set, selections_nest, type_nests, variable_nests, variables_nest, set_nests, operation_nests}
use Rattle.graphql_spec.specs.WellFormedDocuments.{fragment_nests, definition_nests, document_nests}
use Rattle.graphql_spec.proofs.SpelledNames.{both}

-- ## What every rule is made of

opt-nests : {A : Type 0} (R : A → At → At → Type 0) (test : A → Bool) → ((x : A) (s t : At) → R x s t → test x ≡ true)
    → (o : Option A) (s t : At) → Opt R o s t → is_none_or test o ≡ true
unfolding is_none_or
opt-nests R test each None s t h = refl
opt-nests R test each (Some x) s t h = each x s t h

many-nest : {A : Type 0} (R : A → At → At → Type 0) (test : A → Bool) → ((x : A) (s t : At) → R x s t → test x ≡ true)
    → (xs : List A) (s t : At) → Many R xs s t → list_all test xs ≡ true
many-nest R test each [] s t h = refl
many-nest R test each (x ∷ xs) s t (a, h, r) = both (each x s a h) (many-nest R test each xs a t r)

between-nests : {A : Type 0} (opens closes : ℕ) (R : ℕ → A → At → At → Type 0) (test : ℕ → A → Bool) →
    ((n : ℕ) (x : A) (s t : At) → R n x s t → test n x ≡ true)
    → (xs : List A) (n : ℕ) (s t : At) → Between opens closes R xs n s t → nests_inside (λ m. list_all (test m) xs) n ≡ true
unfolding nests_inside
between-nests opens closes R test each [] n s t h = absurd h
between-nests opens closes R test each (x ∷ xs) zero s t h = absurd h
between-nests opens closes R test each (x ∷ xs) (suc n) s t (a, b, o, m, c) = many-nest (R n) (test n) (each n) (x ∷ xs) a b m

-- ## Values and types

mutual
  unfolding nests items_nest fields_nest

  value-nests : (c : Bool) (v : Input) (n : ℕ) (s t : At) → IsValue c v n s t → nests n v ≡ true
  value-nests c null n s t h = refl
  value-nests c (scalar x) n s t h = refl
  value-nests c (enumerated x) n s t h = refl
  value-nests c (variable x) n s t h = refl
  value-nests c (list is) zero s t h = absurd h
  value-nests c (list is) (suc n) s t (a, b, o, h, e) = items-nest c is n a b h
  value-nests c (object fs) zero s t h = absurd h
  value-nests c (object fs) (suc n) s t (a, b, o, h, e) = fields-nest c fs n a b h

  items-nest : (c : Bool) (is : InputItems) (n : ℕ) (s t : At) → AreItems c is n s t → items_nest n is ≡ true
  items-nest c no_items n s t h = refl
  items-nest c (item v at rest) n s t (a, h, e, r) = both (value-nests c v n s a h) (items-nest c rest n a t r)

  fields-nest : (c : Bool) (fs : InputFields) (n : ℕ) (s t : At) → AreFields c fs n s t → fields_nest n fs ≡ true
  fields-nest c no_fields n s t h = refl
  fields-nest c (input_field k k_at v v_at rest) n s t (a, b, d, h, m, i, e, r) = both (value-nests c v n b d i) (fields-nest c rest n d t r)

type-nests : (u : TypeRef) (n : ℕ) (s t : At) → IsType u n s t → type_nests n u ≡ true
unfolding type_nests nests_inside
type-nests (named r name) n s t h = refl
type-nests (list_of r size u) zero s t h = absurd h
type-nests (list_of r size u) (suc n) s t (none, a, b, d, o, h, e, m) = type-nests u n a b h

-- ## Arguments and directives

argument-nests : (c : Bool) (n : ℕ) (x : Argument) (s t : At) → IsArgument c n x s t → argument_nests n x ≡ true
unfolding argument_nests
argument-nests c n x s t (a, b, h, m, v, e) = value-nests c x.value.item n b t v

arguments-nest : (c : Bool) (n : ℕ) (as' : Arguments) (s t : At) → Opt (IsArguments c n) as' s t → arguments_nest n as' ≡ true
unfolding arguments_nest is_none_or
arguments-nest c n None s t h = refl
arguments-nest c n (Some as') s t (h, e) = between-nests 40 41 (IsArgument c) argument_nests (argument-nests c) as'.item n s t h

directive-nests : (c : Bool) (n : ℕ) (d : Directive) (s t : At) → IsDirective c n d s t → directive_nests n d ≡ true
unfolding directive_nests
directive-nests c n d s t (a, b, m, h, o, e) = arguments-nest c n d.arguments b t o

directives-nest : (c : Bool) (n : ℕ) (ds : List Directive) (s t : At) → AreDirectives c n ds s t → directives_nest n ds ≡ true
unfolding directives_nest
directives-nest c n ds s t h = many-nest (IsDirective c n) (directive_nests n) (directive-nests c n) ds s t h

-- ## Selections

-- what reads these selections finds that they nest
abbrev ReadsNesting : Selections → (ℕ → At → At → Type 0) → Type 0
ReadsNesting below inside = (n : ℕ) (s t : At) → inside n s t → selections_nest n below ≡ true

set-nests : (below : Selections) (inside : ℕ → At → At → Type 0) → ReadsNesting below inside → (n : ℕ) (s t : At) → Set below inside n s t →
    set_nests n below ≡ true
unfolding set_nests nests_inside
set-nests below inside each zero s t h = absurd h
set-nests below inside each (suc n) s t (some, a, b, o, h, e) = each n a b h

opt_set-nests : (b : Bool) (below : Selections) (inside : ℕ → At → At → Type 0) → ReadsNesting below inside → (n : ℕ) (s t : At) → OptSet b below inside n s t
    → in_set b (λ m. selections_nest m below) n ≡ true
unfolding in_set set_nests selections_nest
opt_set-nests true below inside each n s t h = set-nests below inside each n s t h
opt_set-nests false below inside each n s t (none, e) = rw none refl

selections-nest : (x : Selections) (n : ℕ) (s t : At) → AreSelections x n s t → selections_nest n x ≡ true
unfolding selections_nest head_nests set_nests
selections-nest end n s t h = refl
selections-nest (field h below rest) n s t (z, (a, b, d, e, alias, name, arguments, directives, set, span), r) =
    both (both (arguments-nest false n h.arguments b d arguments) (directives-nest false n h.directives d e directives))
    (both (opt_set-nests h.has_set below (AreSelections below) (selections-nest below) n e z set) (selections-nest rest n z t r))
selections-nest (spread x rest) n s t (z, (a, b, m, name, other, directives, span), r) =
    both (directives-nest false n x.directives b z directives) (selections-nest rest n z t r)
selections-nest (inline x below rest) n s t (z, (a, b, d, m, condition, directives, set, span), r) =
    both (directives-nest false n x.directives b d directives) (both (set-nests below (AreSelections below) (selections-nest below) n d z set)
    (selections-nest rest n z t r))

-- ## Definitions

default-nests : (n : ℕ) (v : Spanned Input) (s t : At) → Default n v s t → nests n v.item ≡ true
default-nests n v s t (a, m, h, e) = value-nests true v.item n a t h

variable-nests : (n : ℕ) (v : VariableDefinition) (s t : At) → IsVariable n v s t → variable_nests n v ≡ true
unfolding variable_nests
variable-nests n v s t (a, b, d, e, f, dollar, name, name_at, colon, of_type, type_at, default, directives) =
    both (type-nests v.of_type.item n d e of_type) (both (opt-nests (Default n) (λ x. nests n x.item) (default-nests n) v.default e f default)
    (directives-nest true n v.directives f t directives))

variables-nest : (n : ℕ) (vs : Option (Spanned (List VariableDefinition))) (s t : At) → Opt (AreVariables n) vs s t → variables_nest n vs ≡ true
unfolding variables_nest is_none_or
variables-nest n None s t h = refl
variables-nest n (Some vs) s t (h, e) = between-nests 40 41 IsVariable variable_nests variable-nests vs.item n s t h

operation-nests : (o : Operation) (n : ℕ) (s t : At) → IsOperation o n s t → operation_nests n o ≡ true
unfolding operation_nests variables_nest is_none_or directives_nest
operation-nests o n s t (inl (kind, name, variables, directives, set), span) =
    rw (variables, directives) (set-nests o.selections (AreSelections o.selections) (selections-nest o.selections) n s t set)
operation-nests o n s t (inr (a, b, d, e, kind, name, variables, directives, set), span) =
    both (variables-nest n o.variables b d variables) (both (directives-nest false n o.directives d e directives)
    (set-nests o.selections (AreSelections o.selections) (selections-nest o.selections) n e t set))

fragment-nests : (f : Fragment) (n : ℕ) (s t : At) → IsFragment f n s t → fragment_nests n f ≡ true
unfolding fragment_nests
fragment-nests f n s t (a, b, d, e, begins, name, other, condition, directives, set, span) =
    both (directives-nest false n f.directives d e directives) (set-nests f.selections (AreSelections f.selections) (selections-nest f.selections) n e t set)

definition-nests : (n : ℕ) (x : Definition) (s t : At) → IsDefinition n x s t → definition_nests n x ≡ true
unfolding definition_nests
definition-nests n (operation o) s t h = operation-nests o n s t h
definition-nests n (fragment f) s t h = fragment-nests f n s t h

-- what a text spells nests
pub spelled_nest : (bytes : List ℕ) (d : Document) → Spells bytes d → document_nests most_brackets d ≡ true
unfolding document_nests
spelled_nest bytes d (ts, is_text, (some, t, h, last)) =
    many-nest (IsDefinition most_brackets) (definition_nests most_brackets) (definition-nests most_brackets) d (record { last = origin; ahead = ts }) t h
