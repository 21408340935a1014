-- worked rows: the order of errors, places, directives, names, ignored characters, kinds of scalars
use Rattle.std.specs.Prelude.{ℕ, Bool, true, false, codes, List, [], ◌∷◌, ◌≡◌, None, Some, is_some, pos}
use Rattle.std.specs.declared.cmp.Ordering.TheVariants.{Less, Equal, Greater}
use Rattle.std.specs.Str.{bytes_eq}
use Rattle.std.proofs.Common.{refl}
use Rattle.graphql_spec.specs.Shown.{Text, int, text, boolean}
use Rattle.graphql_spec.specs.Positions.{beginning, next_line, continues_character, past_byte, walk}
use Rattle.graphql_spec.specs.Tokens.{mark, name, int as int_token, string, IsToken, is_name, starts_name, continues_name, ends_before, is_digits, is_int}
use Rattle.graphql_spec.specs.Tokens.{continues_int, is_quote, decode_from, decoded_string, mark_text, is_mark, is_blank, is_line_end, is_source_byte, is_nil}
use Rattle.graphql_spec.specs.Tokens.{between, ignore_byte, is_ignored}
use Rattle.graphql_spec.specs.Inputs as i
use Rattle.graphql_spec.specs.Inputs.{Input, Variables}
use Rattle.graphql_spec.specs.Documents.{Directive}
use Rattle.graphql_spec.specs.Directives.{passes, admits}
use Rattle.graphql_spec.specs.Values.{Value, null, scalar, list, object, no_items, item, no_entries, entry, join}
use Rattle.graphql_spec.specs.Errors.{key, index, Place, Listed, compare_positions, compare_steps, compare, not_greater, is_least, is_sorted, keys_only}
use Rattle.graphql_spec.specs.Failures.{landing}
use Rattle.graphql_spec.specs.Schema.{Schema, object_type, interface_type, union_type}
use Rattle.graphql_spec.specs.Types.{named, list_of}
use Rattle.graphql_spec.specs.Fields.{accepts, field_of, is_possible}
use Rattle.graphql_spec.proofs.Demo.{at, span, word, here, bad, entry_of, kinds, typename_last, demo}
use Rattle.graphql_spec.proofs.Rows.{outcome}

-- ## The order of errors

abbrev listed : ℕ → Place → Text → Listed
listed n p t = record { path = p; start = at n; error = bad t }

abbrev with_extensions : Listed
with_extensions = record { path = key (codes "a") ∷ []; start = at 2; error = record { message = codes "m"; extensions = scalar (int (pos 1)) } }

-- by start first; at one start a beginning of a path first, then numbers by number, numbers before keys, keys by bytes; then
-- messages by bytes; extensions count for nothing
orders : (compare (listed 2 (key (codes "b") ∷ []) (codes "z")) (listed 5 (key (codes "a") ∷ []) (codes "m")) ≡ Less)
    × (compare (listed 5 (key (codes "a") ∷ []) (codes "m")) (listed 2 (key (codes "b") ∷ []) (codes "z")) ≡ Greater)
    × (compare (listed 2 (key (codes "a") ∷ []) (codes "z")) (listed 2 (key (codes "a") ∷ key (codes "b") ∷ []) (codes "m")) ≡ Less)
    × (compare (listed 2 (key (codes "a") ∷ index 2 ∷ []) (codes "z")) (listed 2 (key (codes "a") ∷ index 10 ∷ []) (codes "m")) ≡ Less)
    × (compare (listed 2 (key (codes "a") ∷ index 10 ∷ []) (codes "z")) (listed 2 (key (codes "a") ∷ key (codes "b") ∷ []) (codes "m")) ≡ Less)
    × (compare (listed 2 (key (codes "ab") ∷ []) (codes "m")) (listed 2 (key (codes "b") ∷ []) (codes "m")) ≡ Less)
    × (compare (listed 2 (key (codes "a") ∷ []) (codes "m")) (listed 2 (key (codes "a") ∷ []) (codes "n")) ≡ Less)
    × (compare (listed 2 (key (codes "a") ∷ []) (codes "m")) with_extensions ≡ Equal)
unfolding compare_positions compare_steps compare
orders = (refl, refl, refl, refl, refl, refl, refl, refl)

-- places at one index are ordered by line, then by column
lines : (compare_positions (record { index = 3; line = 1; column = 0 }) (record { index = 3; line = 0; column = 3 }) ≡ Greater)
    × (compare_positions (record { index = 3; line = 1; column = 0 }) (record { index = 3; line = 1; column = 2 }) ≡ Less)
unfolding compare_positions
lines = (refl, refl)

-- each error is compared with every later one
sorts : (is_sorted (listed 2 [] (codes "a") ∷ listed 2 [] (codes "a") ∷ listed 7 [] (codes "a") ∷ []) ≡ true)
    × (is_sorted (listed 7 [] (codes "a") ∷ listed 2 [] (codes "a") ∷ []) ≡ false)
    × (is_sorted (listed 2 [] (codes "a") ∷ listed 7 [] (codes "a") ∷ listed 5 [] (codes "a") ∷ []) ≡ false) × (is_sorted [] ≡ true)
unfolding compare_positions compare_steps compare not_greater is_least is_sorted
sorts = (refl, refl, refl, refl)

-- a place as it is listed while paths hold response keys alone
erased : keys_only (key (codes "a") ∷ index 3 ∷ key (codes "b") ∷ index 0 ∷ []) ≡ key (codes "a") ∷ key (codes "b") ∷ []
unfolding keys_only
erased = refl

-- ## Places in a text

-- CR, then `a`, then LF: two lines; LF CR: two lines; `é` and U+FEFF are one character each
ends_of_lines : (walk beginning (13 ∷ 97 ∷ 10 ∷ []) ≡ record { position = record { index = 3; line = 2; column = 0 }; after_return = false })
    × (walk beginning (10 ∷ 13 ∷ []) ≡ record { position = record { index = 2; line = 2; column = 0 }; after_return = true })
    × (walk beginning (195 ∷ 169 ∷ 239 ∷ 187 ∷ 191 ∷ 97 ∷ []) ≡ record { position = record { index = 6; line = 0; column = 3 }; after_return = false })
unfolding next_line continues_character past_byte walk
ends_of_lines = (refl, refl, refl)

-- ## Names, punctuators, ignored characters

names : (is_name (codes "_aZ9") ≡ true) × (is_name (codes "__typename") ≡ true) × (is_name (codes "9a") ≡ false) × (is_name (codes "a-b") ≡ false)
    × (is_name [] ≡ false) × (is_name (195 ∷ 169 ∷ []) ≡ false)
unfolding is_name starts_name continues_name
names = (refl, refl, refl, refl, refl, refl)

abbrev each : (ℕ → Bool) → List ℕ → List Bool
each f [] = []
each f (b ∷ bs) = f b ∷ each f bs

-- `!$&():=@[]{|}`, and then dot, comma, quote and hyphen
marks : (each is_mark (codes "!$&():=@[]{|}") ≡ true ∷ true ∷ true ∷ true ∷ true ∷ true ∷ true ∷ true ∷ true ∷ true ∷ true ∷ true ∷ true ∷ [])
    × (each is_mark (codes ".,\"-") ≡ false ∷ false ∷ false ∷ false ∷ [])
unfolding is_mark
marks = (refl, refl)

-- no name before a further letter, no Int before a letter, a point or a digit, no empty text before a quote; `""` is one before a blank
longest : (IsToken (name (codes "a")) (codes "a") (codes "b") → ⊥) × (IsToken (int_token (codes "1")) (codes "1") (codes ".5") → ⊥)
    × (IsToken (int_token (codes "0")) (codes "0") (codes "1") → ⊥) × (IsToken (int_token (codes "1")) (codes "1") (codes "e9") → ⊥)
    × (IsToken (string []) (codes "\"\"") (codes "\"") → ⊥) × IsToken (string []) (codes "\"\"") (codes " \"") × (IsToken (mark 46) (codes ".") [] → ⊥)
    × (IsToken (mark 46) (codes "..") (codes ".") → ⊥)
unfolding ends_before is_name starts_name continues_name is_digits is_int continues_int is_quote is_nil decode_from decoded_string mark_text is_mark
longest = (λ t. cc, λ t. cc, λ t. cc, λ t. cc, λ t. cc, (refl, refl, refl), λ t. cc, λ t. cc)

-- blanks, commas, whole comments and U+FEFF; a comment ends at a line's end or with the text and holds no control character
ignored : (is_ignored between (codes " ,\t\n#c \"\n") (codes "a") ≡ true) × (is_ignored between (codes "#c") [] ≡ true)
    × (is_ignored between (codes "#c") (codes "a") ≡ false) × (is_ignored between (239 ∷ 187 ∷ 191 ∷ []) (codes "a") ≡ true)
    × (is_ignored between (239 ∷ 187 ∷ []) (codes "a") ≡ false) × (is_ignored between (35 ∷ 7 ∷ 10 ∷ []) (codes "a") ≡ false)
    × (is_ignored between (35 ∷ 99 ∷ 13 ∷ []) (codes "a") ≡ true) × (is_ignored between (codes "a") [] ≡ false) × (is_ignored between (7 ∷ []) [] ≡ false)
unfolding is_blank is_line_end is_source_byte is_nil ignore_byte is_ignored
ignored = (refl, refl, refl, refl, refl, refl, refl, refl, refl)

-- ## Directives

abbrev conditioned : Text → Input → Directive
conditioned d v = record { name = word d 3; arguments = Some (here 3 (record { name = word (codes "if") 9; value = here 13 v } ∷ [])); span = span 3 9 }

abbrev bare : Text → Directive
bare d = record { name = word d 3; arguments = None; span = span 3 9 }

abbrev twice : Directive
twice = record {
  name = word (codes "skip") 3;
  arguments = Some (here 3
      (record { name = word (codes "if") 9; value = here 13 (i.scalar (boolean false)) }
      ∷ record { name = word (codes "if") 20; value = here 24 (i.scalar (boolean true)) } ∷ []));
  span = span 3 9;
}

abbrev given : Input → Variables
given v = λ n. elim (bytes_eq n (codes "c")) [ true ↦ Some v | false ↦ None ]

abbrev without : Variables
without = λ n. None

-- `@skip` and `@include` with both booleans; then with a text, without argument, with two; then another directive
conditions : (passes without (conditioned (codes "skip") (i.scalar (boolean true))) ≡ false)
    × (passes without (conditioned (codes "skip") (i.scalar (boolean false))) ≡ true)
    × (passes without (conditioned (codes "include") (i.scalar (boolean true))) ≡ true)
    × (passes without (conditioned (codes "include") (i.scalar (boolean false))) ≡ false)
    × (passes without (conditioned (codes "skip") (i.scalar (text (codes "false")))) ≡ false) × (passes without (bare (codes "skip")) ≡ false)
    × (passes without (bare (codes "include")) ≡ false) × (passes without twice ≡ true)
    × (passes without (bare (codes "other")) ≡ true)
unfolding outcome
conditions = (refl, refl, refl, refl, refl, refl, refl, refl, refl)

abbrev led : Variables
led = λ n. elim (bytes_eq n (codes "c")) [ true ↦ Some (i.variable (codes "d")) | false ↦ Some (i.scalar (boolean true)) ]

-- `@include(if: $c)`: c is null; absent; true; the variable `c`; the variable `d`, which is true: a variable is looked up once
variables : (passes (given i.null) (conditioned (codes "include") (i.variable (codes "c"))) ≡ false)
    × (passes without (conditioned (codes "include") (i.variable (codes "c"))) ≡ false)
    × (passes (given (i.scalar (boolean true))) (conditioned (codes "include") (i.variable (codes "c"))) ≡ true)
    × (passes (given (i.variable (codes "c"))) (conditioned (codes "include") (i.variable (codes "c"))) ≡ false)
    × (passes led (conditioned (codes "include") (i.variable (codes "c"))) ≡ false)
unfolding outcome
variables = (refl, refl, refl, refl, refl)

-- each directive counts
both : (admits (passes without) (conditioned (codes "skip") (i.scalar (boolean false)) ∷ conditioned (codes "include") (i.scalar (boolean true)) ∷ []) ≡ true)
    × (admits (passes without) (conditioned (codes "include") (i.scalar (boolean true)) ∷ conditioned (codes "skip") (i.scalar (boolean true)) ∷ []) ≡ false)
    × (admits (passes without) (conditioned (codes "include") (i.scalar (boolean false)) ∷ conditioned (codes "skip") (i.scalar (boolean false)) ∷ []) ≡ false)
unfolding outcome
both = (refl, refl, refl)

-- ## Scalars, types, values

-- an ID takes ints and texts, each other scalar its own kind alone, an enum the names of its values; a type with fields takes none
taken : (accepts demo (codes "ID") (int (pos 1)) ≡ true) × (accepts demo (codes "ID") (text (codes "x")) ≡ true)
    × (accepts demo (codes "ID") (boolean true) ≡ false)
    × (accepts demo (codes "Int") (text (codes "1")) ≡ false) × (accepts demo (codes "String") (int (pos 1)) ≡ false)
    × (accepts demo (codes "Boolean") (boolean false) ≡ true)
    × (accepts demo (codes "Episode") (text (codes "JEDI")) ≡ true) × (accepts demo (codes "Episode") (text (codes "NOPE")) ≡ false)
    × (accepts demo (codes "Episode") (int (pos 1)) ≡ false)
    × (accepts demo (codes "Character") (text (codes "x")) ≡ false) × (accepts demo (codes "Nope") (text (codes "x")) ≡ false)
unfolding outcome
taken = (refl, refl, refl, refl, refl, refl, refl, refl, refl, refl, refl)

-- an object is possible at itself and at what it implements; an interface, an enum and an unknown name are possible nowhere
possible : (is_possible demo (codes "Droid") (codes "Character") ≡ true) × (is_possible demo (codes "Droid") (codes "Droid") ≡ true)
    × (is_possible demo (codes "Droid") (codes "Human") ≡ false)
    × (is_possible demo (codes "Character") (codes "Character") ≡ false) × (is_possible demo (codes "Episode") (codes "Episode") ≡ false)
    × (is_possible demo (codes "Nope") (codes "Nope") ≡ false) × (is_possible demo (codes "Cell") (codes "Character") ≡ false)
unfolding outcome
possible = (refl, refl, refl, refl, refl, refl, refl)

-- `__typename` is a field of objects, interfaces and unions, declared or not, and of no scalar; `__schema` and `__type` are fields of the query type
abbrev both_of : Schema
both_of = record {
  entries = entry_of (codes "String") (kinds false true false) ∷ entry_of (codes "Query") (object_type [] [])
      ∷ entry_of (codes "Other") (object_type [] []) ∷ entry_of (codes "I") (interface_type [] [])
      ∷ entry_of (codes "U") (union_type (codes "Other" ∷ [])) ∷ [];
  query = codes "Query";
  mutation = None;
}

meta_fields_there : (field_of both_of (codes "U") (codes "__typename") ≡ Some typename_last)
    × (field_of both_of (codes "I") (codes "__typename") ≡ Some typename_last) × (field_of both_of (codes "Other") (codes "__typename") ≡ Some typename_last)
    × (field_of both_of (codes "String") (codes "__typename") ≡ None) × (is_some (field_of both_of (codes "Query") (codes "__schema")) ≡ true)
    × (is_some (field_of both_of (codes "Query") (codes "__type")) ≡ true)
    × (field_of both_of (codes "Other") (codes "__schema") ≡ None) × (field_of both_of (codes "U") (codes "__type") ≡ None)
    × (is_possible both_of (codes "Other") (codes "U") ≡ true) × (is_possible both_of (codes "Query") (codes "U") ≡ false)
unfolding outcome
meta_fields_there = (refl, refl, refl, refl, refl, refl, refl, refl, refl, refl)

abbrev one : Value
one = scalar (int (pos 1))

-- null absorbs from both sides and at depth; lists go item by item; the first object's keys come first
joins : (join null (object no_entries) ≡ null) × (join (object no_entries) null ≡ null)
    × (join (list (item one (item null no_items))) (list (item null (item one no_items))) ≡ list (item null (item null no_items)))
    × (join (object (entry (codes "b") one no_entries)) (object (entry (codes "a") one (entry (codes "b") one no_entries)))
    ≡ object (entry (codes "b") one (entry (codes "a") one no_entries)))
    × (join (object (entry (codes "a") one no_entries)) (object (entry (codes "a") null no_entries)) ≡ object (entry (codes "a") null no_entries))
unfolding outcome
joins = (refl, refl, refl, refl, refl)

-- a null lands at its own place where that may be null, else above
lands : (landing (named false (codes "Int")) (key (codes "a") ∷ []) [] ≡ key (codes "a") ∷ [])
    × (landing (named true (codes "Int")) (key (codes "a") ∷ []) [] ≡ [])
    × (landing (list_of true None (named false (codes "Int"))) (key (codes "a") ∷ []) [] ≡ [])
unfolding outcome
lands = (refl, refl, refl)
