-- Worked rows: which types have a fault, and which tokens stand for a declaration, by hand from the Specification.
use Rattle.std.proofs.Common.{◌≡◌, Bool, true, false, List, [], ◌∷◌, Option, Some, None, pos, codes, refl, ap, ◌∙◌}
use Rattle.std.proofs.lemmas.Bool.{false≢true}
use Rattle.graphql_spec.specs.Executable.{is_reserved}
use Rattle.graphql_spec.specs.Inputs.{enumerated, item, list, no_items, object, input_field, no_fields, scalar, variable}
use Rattle.graphql_spec.specs.Schema.{EnumValue, FieldDeclaration, InputDeclaration, current, deprecated}
use Rattle.graphql_spec.specs.Schema.{enum_type, input_object_type, object_type, plain_field, union_type}
use Rattle.graphql_spec.specs.Shown.{Name, int}
use Rattle.graphql_spec.specs.Tokens as token
use Rattle.graphql_spec.specs.Tokens.{Lexeme, before, continues_name, decode_from, decoded_int, decoded_string, digits_value, fits_int, int_value}
use Rattle.graphql_spec.specs.Tokens.{is_digits, is_int, is_name, is_source_byte, read_byte, starts_name}
use Rattle.graphql_spec.specs.Types.{innermost, list_of, named}
use Rattle.graphql_spec.specs.Unplaced.{nowhere}
use Rattle.graphql_spec.specs.WellFormed.{is_enum_name}
use Rattle.juniper_sdl.specs.Faults.{Fault, field_is_written, has_parts, is_constant}
use Rattle.juniper_sdl.specs.Faults.{is_listed, is_some_list, listed_is_written, named_fault, names_are_written, type_fault, value_is_written}
use Rattle.juniper_sdl.specs.Grammar.{IsField, IsRoot, IsSchemaDefinition}
use Rattle.juniper_sdl.specs.declared.fault.Flaw.TheVariants.{NoName, NoParts}

-- ## Faults

no_parts : Name → Option Fault
no_parts n = Some (record { flaw = NoParts; type_name = n })

no_name : Name → Option Fault
no_name n = Some (record { flaw = NoName; type_name = n })

-- a value of an enum
value_named : Name → EnumValue
value_named n = record { name = n; description = None; deprecation = current }

-- `type A {}`
fieldless : named_fault (codes "A") (object_type [] []) ≡ no_parts (codes "A")
unfolding named_fault is_reserved type_fault has_parts no_parts
fieldless = refl

-- `type A {}`, since `__typename` is not listed
typename_alone : named_fault (codes "A") (object_type (plain_field (codes "__typename") [] (named true (codes "String")) ∷ []) []) ≡ no_parts (codes "A")
unfolding named_fault is_reserved type_fault has_parts is_listed plain_field no_parts
typename_alone = refl

-- `enum A {}`, `union A =`, `input A {}`
no_values : named_fault (codes "A") (enum_type []) ≡ no_parts (codes "A")
unfolding named_fault is_reserved type_fault has_parts is_some_list no_parts
no_values = refl

no_members : named_fault (codes "A") (union_type []) ≡ no_parts (codes "A")
unfolding named_fault is_reserved type_fault has_parts is_some_list no_parts
no_members = refl

no_input_fields : named_fault (codes "A") (input_object_type []) ≡ no_parts (codes "A")
unfolding named_fault is_reserved type_fault has_parts is_some_list no_parts
no_input_fields = refl

-- `__A` is left out, whatever it declares
left_out : named_fault (codes "__A") (enum_type []) ≡ None
unfolding named_fault is_reserved
left_out = refl

-- a field of the type `C`
a_field : Name → FieldDeclaration
a_field n = record { name = n; description = None; arguments = []; of_type = named false (codes "C"); deprecation = current }

-- `type A { b: C }`
one_field : type_fault (codes "A") (object_type (a_field (codes "b") ∷ []) []) ≡ None
unfolding type_fault has_parts is_reserved is_listed names_are_written listed_is_written field_is_written is_name starts_name continues_name innermost a_field
one_field = refl

-- `type A { b-d: C }`
no_field_name : type_fault (codes "A") (object_type (a_field (codes "b-d") ∷ []) []) ≡ no_name (codes "A")
unfolding type_fault has_parts is_reserved is_listed names_are_written listed_is_written field_is_written is_name starts_name continues_name a_field no_name
no_field_name = refl

-- `enum A { true }`
true_value : type_fault (codes "A") (enum_type (value_named (codes "true") ∷ [])) ≡ no_name (codes "A")
unfolding type_fault has_parts is_some_list names_are_written value_is_written value_named is_enum_name is_name starts_name continues_name no_name
true_value = refl

-- `[{x: RED}]` is a constant, `[{x: $y}]` and `[{2: RED}]` are none
is_one : is_constant (list (item (object (input_field (codes "x") nowhere (enumerated (codes "RED")) nowhere no_fields)) nowhere no_items)) ≡ true
unfolding is_constant is_enum_name is_name starts_name continues_name
is_one = refl

has_variable : is_constant (list (item (object (input_field (codes "x") nowhere (variable (codes "y")) nowhere no_fields)) nowhere no_items)) ≡ false
unfolding is_constant is_name starts_name continues_name
has_variable = refl

has_digit : is_constant (list (item (object (input_field (codes "2") nowhere (enumerated (codes "RED")) nowhere no_fields)) nowhere no_items)) ≡ false
unfolding is_constant is_name starts_name continues_name
has_digit = refl

-- ## Tokens

word : Name → Lexeme
word n = token.name n

-- `c: [Int!] = [1]`
numbers : InputDeclaration
numbers = record {
  name = codes "c";
  description = None;
  of_type = list_of false None (named true (codes "Int"));
  default = Some (list (item (scalar (int (pos 1))) nowhere no_items));
}

-- `schema { query: Q mutation: M }` (3.3)
both_roots : IsSchemaDefinition (codes "Q") (Some (codes "M")) (
    word (codes "schema") ∷ token.mark 123 ∷ word (codes "query") ∷ token.mark 58 ∷ word (codes "Q") ∷ word (codes "mutation") ∷ token.mark 58
    ∷ word (codes "M") ∷ token.mark 125 ∷ []
    ) []
unfolding word
both_roots = (_, refl, (_, refl, (_, (_, refl, (_, refl, refl)), (_, (_, refl, (_, refl, refl)), refl))))

-- `"d" b(c: [Int!] = [1]): D @deprecated` (3.6)
described_field : FieldDeclaration
described_field = record {
  name = codes "b";
  description = Some (codes "d");
  arguments = numbers ∷ [];
  of_type = named false (codes "D");
  deprecation = deprecated None;
}

field_tokens : IsField described_field (
    token.string (codes "d") ∷ word (codes "b") ∷ token.mark 40 ∷ word (codes "c") ∷ token.mark 58 ∷ token.mark 91 ∷ word (codes "Int") ∷ token.mark 33
    ∷ token.mark 93 ∷ token.mark 61 ∷ token.mark 91 ∷ token.int (codes "1") ∷ token.mark 93 ∷ token.mark 41 ∷ token.mark 58 ∷ word (codes "D")
    ∷ token.mark 64 ∷ word (codes "deprecated") ∷ []
    ) []
unfolding described_field numbers word decoded_string decode_from read_byte is_source_byte before decoded_int is_int is_digits int_value digits_value fits_int
field_tokens = (
  _,
  (_, refl, refl),
  (
    _,
    refl,
    (
      _,
      (
        _,
        refl,
        (
          _,
          (
            _,
            (_, refl, (_, refl, (_, refl, (_, (_, (_, refl, (_, (_, refl, refl), refl)), refl), (_, refl, (_, refl, (_, (_, (_, refl, refl), refl), refl))))))),
            refl,
          ),
          refl,
        ),
      ),
      (_, refl, (_, (_, refl, refl), (_, refl, refl))),
    ),
  ),
)

-- `query Q` is no root type: the colon is not there
is_colon_next : List Lexeme → Bool
is_colon_next (token.mark m ∷ ls) = true
is_colon_next _ = false

behind : List Lexeme → List Lexeme
behind [] = []
behind (l ∷ ls) = ls

no_colon : IsRoot (codes "query") (codes "Q") (word (codes "query") ∷ word (codes "Q") ∷ []) [] → ⊥
unfolding word is_colon_next behind
no_colon (a, first, (b, second, third)) = false≢true (ap is_colon_next (ap behind first ∙ second))
