-- The values of variables that a JSON text gives (6.1.2).
use Rattle.std.specs.Prelude.{◌≡◌, ◌&&◌, ◌||◌, not, is_some, cond, Bool, true, ℤ, pos, Option, Some, None, option_map, Result, Ok, Err}
use Rattle.std.specs.Float.{float_zero, is_sign_negative}
use Rattle.std.specs.Float.Ieee.{eq}
use Rattle.std.specs.Option.{option_and_then}
use Rattle.std.specs.Str.{bytes_eq}
use Rattle.std.specs.HashMap.{HashMap}
use Rattle.graphql_spec.specs.Shown.{Text, Name, int, text, boolean}
use Rattle.graphql_spec.specs.Positions.{Span, origin}
use Rattle.graphql_spec.specs.Tokens.{fits_int}
use Rattle.graphql_spec.specs.Inputs as inputs
use Rattle.graphql_spec.specs.Inputs.{Input, InputItems, InputFields, Variables, input_field}
use Rattle.juniper_syntax.specs.InputView.{view_variables}
use Rattle.juniper_syntax.specs.Scalars.{default_shown}
use Rattle.juniper_syntax.specs.declared.input.InputValue.{InputValue}
use Rattle.juniper_syntax.specs.declared.scalar.DefaultScalarValue.{DefaultScalarValue}
use Rattle.juniper_json.specs.declared.read.VariablesError.{VariablesError}
use Rattle.juniper_json.specs.declared.read.VariablesError.TheVariants.{NotAnObject, Float, OutOfRange}
use Rattle.std.specs.declared.string.String.{String}
use Rattle.std.specs.declared.alloc.Global.{Global}
use Rattle.serde_json.specs.Data.{Num, Data, null, boolean, number, string, array, object, Items, no_items, item, Members, no_members, member}
use Rattle.serde_json.specs.Find.{as_i64, as_object, get_member, is_float, to_float}
use Rattle.serde_json.specs.Read.{read}

-- ## Numbers

-- `-0`: an integer as GraphQL reads it (2.9.1), though a float as JSON is read
unfoldable pub is_minus_zero : Num → Bool
is_minus_zero n = eq (to_float n) float_zero && is_sign_negative (to_float n)

-- a number that is written without a fraction and an exponent (2.9.1), and that 64 bits hold
abbrev pub is_integer : Num → Bool
is_integer n = not (is_float n) || is_minus_zero n

-- the Int that a number is (3.5.1)
abbrev pub as_int : ℤ → Option ℤ
as_int z = cond (fits_int z) (Some z) None

-- the same of a number of JSON
abbrev pub int_in : Num → Option ℤ
int_in n = cond (is_minus_zero n) (Some (pos 0)) (option_and_then as_int (as_i64 n))

-- each number in a value passes a test
unfoldable mutual
  pub all_numbers : (Num → Bool) → Data → Bool
  all_numbers test null = true
  all_numbers test (boolean b) = true
  all_numbers test (number n) = test n
  all_numbers test (string s) = true
  all_numbers test (array ds) = all_items test ds
  all_numbers test (object ms) = all_members test ms

  pub all_items : (Num → Bool) → Items → Bool
  all_items test no_items = true
  all_items test (item d ds) = all_numbers test d && all_items test ds

  pub all_members : (Num → Bool) → Members → Bool
  all_members test no_members = true
  all_members test (member k d ms) = all_numbers test d && all_members test ms

-- ## Values

-- no place in the text of a request
abbrev pub nowhere : Span
nowhere = record { start = origin; end = origin }

-- an Int; a number that is none is refused before, and null stands for it here
abbrev pub int_input : Option ℤ → Input
int_input None = inputs.null
int_input (Some z) = inputs.scalar (int z)

-- a value by its own kind
unfoldable mutual
  pub input_of : Data → Input
  input_of null = inputs.null
  input_of (boolean b) = inputs.scalar (boolean b)
  input_of (number n) = int_input (int_in n)
  input_of (string s) = inputs.scalar (text s)
  input_of (array ds) = inputs.list (items_of ds)
  input_of (object ms) = inputs.object (fields_of ms)

  pub items_of : Items → InputItems
  items_of no_items = inputs.no_items
  items_of (item d ds) = inputs.item (input_of d) nowhere (items_of ds)

  pub fields_of : Members → InputFields
  fields_of no_members = inputs.no_fields
  fields_of (member k d ms) = input_field k nowhere (input_of d) nowhere (fields_of ms)

-- the value of each member, by its name
abbrev pub values_of : Members → Variables
values_of ms n = option_map input_of (get_member n ms)

-- values, with this at k in place of what stood there
abbrev pub put_value : Name → Data → Variables → Variables
put_value k d old n = cond (bytes_eq k n) (Some (input_of d)) (old n)

-- ## Texts

-- what the members of an object give
abbrev pub variables_in : Members → Result Variables VariablesError
variables_in ms =
    cond (all_members is_integer ms) (cond (all_members (λ n. is_some (int_in n)) ms) (Ok (values_of ms)) (Err OutOfRange)) (Err Float)

-- what a text gives, by the JSON value that it is, if it is one
abbrev pub variables_from : Option Members → Result Variables VariablesError
variables_from None = Err NotAnObject
variables_from (Some ms) = variables_in ms

abbrev pub variables_by : Text → Result Variables VariablesError
variables_by t = variables_from (option_and_then as_object (read t))

-- this is what is given
abbrev pub IsGiven : Result Variables VariablesError → {H : Type 0} → Result (HashMap (String Global) (InputValue DefaultScalarValue) H) VariablesError → Type 0
IsGiven given (Ok made) = given ≡ Ok (view_variables default_shown made)
IsGiven given (Err e) = given ≡ Err e
