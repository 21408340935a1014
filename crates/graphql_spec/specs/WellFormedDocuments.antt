-- What holds of every document that a text spells: its names are Names (2.1.9), no fragment is named `on` (2.8), its
-- enum values are none of `true`, `false` and `null` (2.9.6), and its brackets nest only so deep.
use Rattle.std.specs.Prelude.{ℕ, zero, suc, Bool, true, false, not, ◌&&◌, List, Option, Some, None}
use Rattle.std.specs.List.{list_all}
use Rattle.std.specs.Str.{bytes_eq}
use Rattle.graphql_spec.specs.Shown.{Name}
use Rattle.graphql_spec.specs.Positions.{Spanned}
use Rattle.graphql_spec.specs.Types.{TypeRef, named, list_of, innermost}
use Rattle.graphql_spec.specs.Tokens.{is_name}
use Rattle.graphql_spec.specs.Grammar.{on_word}
use Rattle.graphql_spec.specs.WellFormed.{is_named, nests}
use Rattle.graphql_spec.specs.Documents.{Word, Argument, Arguments, Directive, Head, Spread, Inline, Selections, end, field, spread, inline, VariableDefinition}
use Rattle.graphql_spec.specs.Documents.{Operation, Fragment, Definition, operation, fragment, Document, written, variables_of}

-- what is there passes the test
unfoldable pub is_none_or : {A : Type 0} → (A → Bool) → Option A → Bool
is_none_or test None = true
is_none_or test (Some x) = test x

-- ## Names

-- a Name with its place (2.1.9)
unfoldable pub word_is_named : Word → Bool
word_is_named w = is_name w.item

-- a Name other than `on` (2.8)
unfoldable pub is_fragment_name : Name → Bool
is_fragment_name w = is_name w && not (bytes_eq w on_word)

-- an argument (2.6)
unfoldable pub argument_is_named : Argument → Bool
argument_is_named a = is_name a.name.item && is_named a.value.item

-- the arguments that are written (2.6)
unfoldable pub arguments_are_named : Arguments → Bool
arguments_are_named as' = list_all argument_is_named (written as')

-- a directive (2.12)
unfoldable pub directive_is_named : Directive → Bool
directive_is_named d = is_name d.name.item && arguments_are_named d.arguments

-- directives, one after the other (2.12)
unfoldable pub directives_are_named : List Directive → Bool
directives_are_named ds = list_all directive_is_named ds

-- a field without what it selects (2.5, 2.7)
unfoldable pub head_is_named : Head → Bool
head_is_named h = is_none_or word_is_named h.alias && (is_name h.name.item && (arguments_are_named h.arguments && directives_are_named h.directives))

-- a fragment spread (2.8)
unfoldable pub spread_is_named : Spread → Bool
spread_is_named x = is_fragment_name x.name.item && directives_are_named x.directives

-- an inline fragment without what it selects (2.8.2)
unfoldable pub inline_is_named : Inline → Bool
inline_is_named x = is_none_or word_is_named x.condition && directives_are_named x.directives

-- selections, at any depth (2.4)
unfoldable pub selections_are_named : Selections → Bool
selections_are_named end = true
selections_are_named (field h below rest) = head_is_named h && (selections_are_named below && selections_are_named rest)
selections_are_named (spread x rest) = spread_is_named x && selections_are_named rest
selections_are_named (inline x below rest) = inline_is_named x && (selections_are_named below && selections_are_named rest)

-- a type: the name inside all its lists (2.11)
unfoldable pub type_is_named : TypeRef → Bool
type_is_named t = is_name (innermost t)

-- a variable's definition (2.10)
unfoldable pub variable_is_named : VariableDefinition → Bool
variable_is_named v =
    is_name v.name.item && (type_is_named v.of_type.item && (is_none_or (λ d. is_named d.item) v.default && directives_are_named v.directives))

-- an operation (2.3)
unfoldable pub operation_is_named : Operation → Bool
operation_is_named o =
    is_none_or word_is_named o.name && (list_all variable_is_named (variables_of o) && (directives_are_named o.directives && selections_are_named o.selections))

-- a fragment's definition (2.8)
unfoldable pub fragment_is_named : Fragment → Bool
fragment_is_named f = is_fragment_name f.name.item && (is_name f.condition.item && (directives_are_named f.directives && selections_are_named f.selections))

-- an executable definition (2.2)
unfoldable pub definition_is_named : Definition → Bool
definition_is_named (operation o) = operation_is_named o
definition_is_named (fragment f) = fragment_is_named f

-- a document (2.2)
unfoldable pub document_is_named : Document → Bool
document_is_named d = list_all definition_is_named d

-- ## Nesting: at most that many brackets are open at once

-- one bracket is opened, and what stands in it passes the test with one fewer to open
unfoldable pub nests_inside : (ℕ → Bool) → ℕ → Bool
nests_inside test zero = false
nests_inside test (suc n) = test n

-- an argument's value (2.6)
unfoldable pub argument_nests : ℕ → Argument → Bool
argument_nests n a = nests n a.value.item

-- arguments, in round brackets where any are written (2.6)
unfoldable pub arguments_nest : ℕ → Arguments → Bool
arguments_nest n as' = is_none_or (λ xs. nests_inside (λ m. list_all (argument_nests m) xs.item) n) as'

-- a directive (2.12)
unfoldable pub directive_nests : ℕ → Directive → Bool
directive_nests n d = arguments_nest n d.arguments

-- directives, one after the other (2.12)
unfoldable pub directives_nest : ℕ → List Directive → Bool
directives_nest n ds = list_all (directive_nests n) ds

-- a field without what it selects (2.5)
unfoldable pub head_nests : ℕ → Head → Bool
head_nests n h = arguments_nest n h.arguments && directives_nest n h.directives

-- what stands below a field, in braces where a selection set is written (2.5)
unfoldable pub in_set : Bool → (ℕ → Bool) → ℕ → Bool
in_set true test n = nests_inside test n
in_set false test n = test n

-- selections, with the sets below them (2.4)
unfoldable pub selections_nest : ℕ → Selections → Bool
selections_nest n end = true
selections_nest n (field h below rest) = head_nests n h && (in_set h.has_set (λ m. selections_nest m below) n && selections_nest n rest)
selections_nest n (spread x rest) = directives_nest n x.directives && selections_nest n rest
selections_nest n (inline x below rest) = directives_nest n x.directives && (nests_inside (λ m. selections_nest m below) n && selections_nest n rest)

-- a type, each list in square brackets (2.11)
unfoldable pub type_nests : ℕ → TypeRef → Bool
type_nests n (named r name) = true
type_nests n (list_of r size t) = nests_inside (λ m. type_nests m t) n

-- a variable's definition (2.10)
unfoldable pub variable_nests : ℕ → VariableDefinition → Bool
variable_nests n v = type_nests n v.of_type.item && (is_none_or (λ d. nests n d.item) v.default && directives_nest n v.directives)

-- definitions of variables, in round brackets where any are written (2.10)
unfoldable pub variables_nest : ℕ → Option (Spanned (List VariableDefinition)) → Bool
variables_nest n vs = is_none_or (λ xs. nests_inside (λ m. list_all (variable_nests m) xs.item) n) vs

-- a selection set (2.4)
unfoldable pub set_nests : ℕ → Selections → Bool
set_nests n s = nests_inside (λ m. selections_nest m s) n

-- an operation (2.3)
unfoldable pub operation_nests : ℕ → Operation → Bool
operation_nests n o = variables_nest n o.variables && (directives_nest n o.directives && set_nests n o.selections)

-- a fragment's definition (2.8)
unfoldable pub fragment_nests : ℕ → Fragment → Bool
fragment_nests n f = directives_nest n f.directives && set_nests n f.selections

-- an executable definition (2.2)
unfoldable pub definition_nests : ℕ → Definition → Bool
definition_nests n (operation o) = operation_nests n o
definition_nests n (fragment f) = fragment_nests n f

-- a document (2.2)
unfoldable pub document_nests : ℕ → Document → Bool
document_nests n d = list_all (definition_nests n) d
