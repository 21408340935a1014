-- What is read of arguments and of the fields of input objects (3.5 to 3.12, 6.4.1).
use Rattle.std.specs.Prelude.{◌≡◌, ℤ, Bool, codes, cond, List, [], ◌∷◌, Option, Some, None, Result, Ok, Err, unwrap_or}
use Rattle.std.specs.Str.{bytes_eq}
use Rattle.graphql_spec.specs.Shown.{Name, Shown, Text}
use Rattle.graphql_spec.specs.Constants.{Constant, null, scalar, enumerated, variable, list, object, find, is_null}
use Rattle.graphql_spec.specs.Resolvers.{Error, Reply, failed}
use Rattle.juniper_conversions.specs.ListConversions.{items_of}
use Rattle.juniper_conversions.specs.ErrorView.{view_error}
use Rattle.juniper_conversions.specs.Messages.{message_alone}
use Rattle.juniper_conversions.specs.declared.field_error.ResolveError.{ResolveError}
use Rattle.juniper_conversions.specs.declared.field_error.ResolveError.TheVariants.{Field, Memory}
use Rattle.juniper_conversions.specs.Conversions.{boolean_of, int_of, refusal_text, text_of}
use Rattle.juniper_conversions.specs.Identifiers.{id_of}
use Rattle.juniper_values.specs.ArgumentsRead.{enum_of}

-- what a call reads, as it is seen, is this, but where memory was refused
abbrev pub ReadsAs : {A B S : Type 0} → (A → B) → (S → Shown) → Result A (ResolveError S) → Result B Error → Type 0
ReadsAs seen shown (Ok x) read = read ≡ Ok (seen x)
ReadsAs seen shown (Err (Field e)) read = read ≡ Err (view_error shown e)
ReadsAs seen shown (Err Memory) read = Unit {0}

-- what is read goes on, an error stays
abbrev pub then_read : {A B : Type 0} → Result A Error → (A → Result B Error) → Result B Error
then_read (Ok x) next = next x
then_read (Err e) next = Err e

-- the context and the reply by what is read; an error of the reading is the field's, and changes nothing (6.2.2)
abbrev pub with_step : {A C N : Type 0} → C → Result A Error → (A → C × Reply N) → C × Reply N
with_step c (Ok x) next = next x
with_step c (Err e) next = (c, failed e)

-- ## Scalars (3.5)

-- a value, or an error of this message
abbrev pub or_refused : {A : Type 0} → Text → Option A → Result A Error
or_refused message None = Err (message_alone message)
or_refused message (Some x) = Ok x

abbrev pub read_int : Constant → Result ℤ Error
read_int v = or_refused (refusal_text (codes "Int") v) (int_of v)

abbrev pub read_text : Constant → Result Text Error
read_text v = or_refused (refusal_text (codes "String") v) (text_of v)

abbrev pub read_bool : Constant → Result Bool Error
read_bool v = or_refused (refusal_text (codes "Boolean") v) (boolean_of v)

abbrev pub read_id : Constant → Result Text Error
read_id v = or_refused (refusal_text (codes "String` or `Int") v) (id_of v)

-- ## Enums (3.9)

-- the first of these values that has this name
abbrev pub named_among : {A : Type 0} → (A → Name) → List A → Name → Option A
named_among name_of [] n = None
named_among name_of (x ∷ rest) n = cond (bytes_eq (name_of x) n) (Some x) (named_among name_of rest n)

-- the value that is named
abbrev pub read_enum : {A : Type 0} → (Name → Option A) → Constant → Result A Error
read_enum named v = or_refused (codes "Expected a value of the enum") (enum_of named v)

-- ## Nullable types (3.12)

abbrev pub some_read : {A : Type 0} → Result A Error → Result (Option A) Error
some_read (Ok x) = Ok (Some x)
some_read (Err e) = Err e

-- null is `None`, any other value is read as the type inside
abbrev pub read_option : {A : Type 0} → (Constant → Result A Error) → Constant → Result (Option A) Error
read_option read v = cond (is_null v) (Ok None) (some_read (read v))

-- ## Lists (3.11)

abbrev pub before_read : {A : Type 0} → A → Result (List A) Error → Result (List A) Error
before_read x (Ok xs) = Ok (x ∷ xs)
before_read x (Err e) = Err e

-- an item, and those behind it
abbrev pub items_read : {A : Type 0} → Result A Error → Result (List A) Error → Result (List A) Error
items_read (Ok x) rest = before_read x rest
items_read (Err e) rest = Err e

-- item by item; the first error is the whole list's
abbrev pub read_items : {A : Type 0} → (Constant → Result A Error) → List Constant → Result (List A) Error
read_items read [] = Ok []
read_items read (v ∷ vs) = items_read (read v) (read_items read vs)

-- null is refused, a list goes item by item, any other value is taken for a list of one item
abbrev pub read_list : {A : Type 0} → (Constant → Result A Error) → Constant → Result (List A) Error
read_list read null = Err (message_alone (codes "Failed to convert into `Vec`: Value cannot be `null`"))
read_list read (scalar s) = read_items read (scalar s ∷ [])
read_list read (enumerated e) = read_items read (enumerated e ∷ [])
read_list read (variable x) = read_items read (variable x ∷ [])
read_list read (list vs) = read_items read (items_of vs)
read_list read (object ms) = read_items read (object ms ∷ [])

-- ## Arguments (6.4.1)

-- an argument that may be missing or null
abbrev pub argument : {A : Type 0} → (Constant → Result A Error) → Option Constant → Result (Option A) Error
argument read None = Ok None
argument read (Some v) = read_option read v

-- an argument; one that is missing is read as null
abbrev pub given : {A : Type 0} → (Constant → Result A Error) → Option Constant → Result A Error
given read v = read (unwrap_or v null)

abbrev pub text_argument : Option Constant → Result (Option Text) Error
text_argument = argument read_text

abbrev pub id_argument : Option Constant → Result (Option Text) Error
id_argument = argument read_id

abbrev pub bool_argument : Option Constant → Result (Option Bool) Error
bool_argument = argument read_bool

-- ## Fields of input objects (3.10)

-- what an object has at a name
abbrev pub at_field : Name → Constant → Option Constant
at_field name null = None
at_field name (scalar s) = None
at_field name (enumerated e) = None
at_field name (variable x) = None
at_field name (list vs) = None
at_field name (object ms) = find name ms

-- a field; one that is missing is read as null
abbrev pub input_field : {A : Type 0} → (Constant → Result A Error) → Name → Constant → Result A Error
input_field read name v = read (unwrap_or (at_field name v) null)

-- what is read where there is something
abbrev pub read_or : {A : Type 0} → (Constant → Result A Error) → A → Option Constant → Result A Error
read_or read default None = Ok default
read_or read default (Some v) = read v

-- a field, or this default where it is missing; a null that is written is read as null
abbrev pub input_field_or : {A : Type 0} → (Constant → Result A Error) → Name → A → Constant → Result A Error
input_field_or read name default v = read_or read default (at_field name v)
