-- worked rows of the rules on arguments: queries of one or two fields on a schema whose fields have arguments
use Rattle.std.specs.Prelude.{◌≡◌, true, false, codes, List, [], ◌∷◌, None, Some, pos}
use Rattle.std.proofs.Common.{refl}
use Rattle.graphql_spec.specs.Shown.{Text, int, boolean}
use Rattle.graphql_spec.specs.Inputs as i
use Rattle.graphql_spec.specs.Inputs.{Input}
use Rattle.graphql_spec.specs.Types.{list_of}
use Rattle.graphql_spec.specs.Documents.{Argument, Selections, end, field, query, operation}
use Rattle.graphql_spec.specs.Schema.{Schema, InputDeclaration, object_type, plain_field, plain_input}
use Rattle.graphql_spec.specs.Rules.{RuleError, rule_errors}
use Rattle.graphql_spec.proofs.Demo.{at, span, word, here, may, must, entry_of, kinds, typename_last}
use Rattle.graphql_spec.proofs.Rows.{outcome}

-- `plus: Int = 1`
unfoldable plus : InputDeclaration
plus = record { name = codes "plus"; description = None; of_type = may (codes "Int"); default = Some (i.scalar (int (pos 1))) }

-- `number(plus: Int = 1): Int`, `need(it: Int!): Int`, `sum(all: [Int!]): Int`, `pair(two: [Int!]): Int` with two items,
-- `kept(it: Int! = 1, flag: Boolean): Int`
unfoldable schema : Schema
schema = record {
  entries =
      entry_of (codes "String") (kinds false true false) ∷ entry_of (codes "Boolean") (kinds false false true) ∷ entry_of (codes "Int") (kinds true false false)
      ∷ entry_of (codes "Query") (object_type (plain_field (codes "number") (plus ∷ []) (may (codes "Int"))
      ∷ plain_field (codes "need") (plain_input (codes "it") (must (codes "Int")) ∷ []) (may (codes "Int"))
      ∷ plain_field (codes "sum") (plain_input (codes "all") (list_of false None (must (codes "Int"))) ∷ []) (may (codes "Int"))
      ∷ plain_field (codes "pair") (plain_input (codes "two") (list_of false (Some 2) (must (codes "Int"))) ∷ []) (may (codes "Int"))
      ∷ plain_field (codes "kept") (record { name = codes "it"; description = None; of_type = must (codes "Int"); default = Some (i.scalar (int (pos 1))) }
      ∷ plain_input (codes "flag") (may (codes "Boolean")) ∷ []) (may (codes "Int"))
      ∷ typename_last ∷ []) []) ∷ [];
  query = codes "Query";
  mutation = None;
}

-- ## Queries

abbrev give : Text → Input → Argument
give k v = record { name = word k 0; value = here 0 v }

abbrev one : Input
one = i.scalar (int (pos 1))

abbrev two : Input
two = i.scalar (int (pos 2))

abbrev yes_value : Input
yes_value = i.scalar (boolean true)

-- a field with an alias or without one, with arguments or without
abbrev call : Text → List Argument → Selections → Selections
call t as' rest = field (record { alias = None; name = word t 2; arguments = Some (here 2 as'); directives = []; has_set = false; span = span 2 3 }) end rest

abbrev bare : Text → Selections → Selections
bare t rest = field (record { alias = None; name = word t 2; arguments = None; directives = []; has_set = false; span = span 2 3 }) end rest

abbrev call_as : Text → Text → List Argument → Selections → Selections
call_as a t as' rest =
    field (record { alias = Some (word a 2); name = word t 5; arguments = Some (here 2 as'); directives = []; has_set = false; span = span 2 3 }) end rest

abbrev bare_as : Text → Text → Selections → Selections
bare_as a t rest = field (record { alias = Some (word a 2); name = word t 5; arguments = None; directives = []; has_set = false; span = span 2 3 }) end rest

unfoldable found : Selections → List RuleError
unfolding outcome schema plus
found s = rule_errors schema true (operation (record { kind = query; name = None; variables = None; directives = []; selections = s; span = span 0 9 }) ∷ [])

abbrev says : Text → RuleError
says t = record { message = t; start = at 0 }

abbrev Says : Selections → Text → Type 0
Says s t = found s ≡ says t ∷ []

abbrev IsRight : Selections → Type 0
IsRight s = found s ≡ []

-- ## Names

-- { number(plus: 1, plus: 1) }, { number(plus: 1, minus: 2, plus: true) }: the first phase alone speaks; { number(plus: 1) need(it: 1) }
unique : Says (call (codes "number") (give (codes "plus") one ∷ give (codes "plus") one ∷ []) end) (codes "Argument name is not unique")
    × Says (call (codes "number") (give (codes "plus") one ∷ give (codes "minus") two ∷ give (codes "plus") yes_value ∷ []) end)
    (codes "Argument name is not unique")
    × IsRight (call (codes "number") (give (codes "plus") one ∷ []) (call (codes "need") (give (codes "it") one ∷ []) end))
unfolding found
unique = (refl, refl, refl)

-- { number(minus: 1) }, { number(pl: 1) }, { number(pluss: 1) }, { number(plus: 1, minus: 1) }, { __typename(a: 1) }
known : Says (call (codes "number") (give (codes "minus") one ∷ []) end) (codes "Unknown argument")
    × Says (call (codes "number") (give (codes "pl") one ∷ []) end) (codes "Unknown argument")
    × Says (call (codes "number") (give (codes "pluss") one ∷ []) end) (codes "Unknown argument")
    × Says (call (codes "number") (give (codes "plus") one ∷ give (codes "minus") one ∷ []) end) (codes "Unknown argument")
    × Says (call (codes "__typename") (give (codes "a") one ∷ []) end) (codes "Unknown argument")
unfolding found
known = (refl, refl, refl, refl, refl)

-- ## Fields

-- { x(a: 1) }: the field alone is unknown; { __type(a: 1) }, { __schema }: fields that are known; { x number(minus: 1) }: both, in order
fields_first : Says (call (codes "x") (give (codes "a") one ∷ []) end) (codes "Unknown field")
    × (found (call (codes "__type") (give (codes "a") one ∷ []) end)
    ≡ says (codes "Selection set does not fit the field") ∷ says (codes "Unknown argument") ∷ says (codes "Argument is missing") ∷ [])
    × Says (bare (codes "__schema") end) (codes "Selection set does not fit the field")
    × (found (bare (codes "x") (call (codes "number") (give (codes "minus") one ∷ []) end))
    ≡ says (codes "Unknown field") ∷ says (codes "Unknown argument") ∷ [])
unfolding found
fields_first = (refl, refl, refl, refl)

-- ## Missing arguments

-- { need }, { kept }, { number }, { sum }; { need(at: true) }: an unknown argument, and one that is missing
missing : Says (bare (codes "need") end) (codes "Argument is missing")
    × IsRight (bare (codes "kept") (bare (codes "number") (bare (codes "sum") end)))
    × (found (call (codes "need") (give (codes "at") yes_value ∷ []) end) ≡ says (codes "Unknown argument") ∷ says (codes "Argument is missing") ∷ [])
unfolding found
missing = (refl, refl, refl)

-- ## Values

-- { number(plus: true) }, { number(plus: null) }, { need(it: null) }, { kept(it: null) }, { kept(it: 1, flag: 1) }, { kept(flag: true, it: 1) }
values : Says (call (codes "number") (give (codes "plus") yes_value ∷ []) end) (codes "Argument does not fit its type")
    × IsRight (call (codes "number") (give (codes "plus") i.null ∷ []) end)
    × Says (call (codes "need") (give (codes "it") i.null ∷ []) end) (codes "Argument does not fit its type")
    × Says (call (codes "kept") (give (codes "it") i.null ∷ []) end) (codes "Argument does not fit its type")
    × Says (call (codes "kept") (give (codes "it") one ∷ give (codes "flag") one ∷ []) end) (codes "Argument does not fit its type")
    × IsRight (call (codes "kept") (give (codes "flag") yes_value ∷ give (codes "it") one ∷ []) end)
unfolding found
values = (refl, refl, refl, refl, refl, refl)

-- { sum(all: 1) }: the list of itself alone; { sum(all: true) }, { sum(all: null) }, { pair(two: 1) }: no list of two
list_values : IsRight (call (codes "sum") (give (codes "all") one ∷ []) end)
    × Says (call (codes "sum") (give (codes "all") yes_value ∷ []) end) (codes "Argument does not fit its type")
    × IsRight (call (codes "sum") (give (codes "all") i.null ∷ []) end)
    × Says (call (codes "pair") (give (codes "two") one ∷ []) end) (codes "Argument does not fit its type")
unfolding found
list_values = (refl, refl, refl, refl)

-- ## Merging

-- { a: number(plus: 1) a: number }, { a: number(plus: 1) a: number(plus: 1) }, { a: number(plus: 1) a: number(plus: 2) }, { a: number(plus: 1) b: number },
-- { a: kept(it: 1, flag: true) a: kept(flag: true, it: 1) }, { a: number(plus: true) a: number }: the third phase does not run
merging : Says (call_as (codes "a") (codes "number") (give (codes "plus") one ∷ []) (bare_as (codes "a") (codes "number") end))
    (codes "Fields cannot be merged")
    × IsRight (call_as (codes "a") (codes "number") (give (codes "plus") one ∷ []) (call_as (codes "a") (codes "number") (give (codes "plus") one ∷ []) end))
    × Says (call_as (codes "a") (codes "number") (give (codes "plus") one ∷ []) (call_as (codes "a") (codes "number") (give (codes "plus") two ∷ []) end))
    (codes "Fields cannot be merged")
    × IsRight (call_as (codes "a") (codes "number") (give (codes "plus") one ∷ []) (bare_as (codes "b") (codes "number") end))
    × IsRight (call_as (codes "a") (codes "kept") (give (codes "it") one ∷ give (codes "flag") yes_value ∷ [])
    (call_as (codes "a") (codes "kept") (give (codes "flag") yes_value ∷ give (codes "it") one ∷ []) end))
    × Says (call_as (codes "a") (codes "number") (give (codes "plus") yes_value ∷ []) (bare_as (codes "a") (codes "number") end))
    (codes "Argument does not fit its type")
unfolding found
merging = (refl, refl, refl, refl, refl, refl)
