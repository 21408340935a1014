-- Why a schema has no text of the language for type systems (3): types that declare no part, and names that are no Names.
use Rattle.std.specs.Prelude.{◌≡◌, Bool, true, false, not, ◌&&◌, ◌||◌, cond, map, List, [], ◌∷◌, Option, Some, None, unwrap_or}
use Rattle.std.specs.List.{list_all, list_any}
use Rattle.std.specs.Option.{option_or}
use Rattle.graphql_spec.specs.Executable.{is_reserved}
use Rattle.graphql_spec.specs.Inputs.{Input, null, scalar, enumerated, variable, list, object, InputItems, no_items, item, InputFields, no_fields, input_field}
use Rattle.graphql_spec.specs.Schema.{EnumValue, FieldDeclaration, InputDeclaration, Schema, Shape}
use Rattle.graphql_spec.specs.Schema.{scalar_type, enum_type, object_type, interface_type, union_type, input_object_type, list_type, nullable_type}
use Rattle.graphql_spec.specs.Schema.{placeholder}
use Rattle.graphql_spec.specs.Shown.{Name, int, text, boolean}
use Rattle.graphql_spec.specs.Tokens.{fits_int, is_name}
use Rattle.graphql_spec.specs.TypeList.{type_list}
use Rattle.graphql_spec.specs.Types.{innermost}
use Rattle.graphql_spec.specs.WellFormed.{is_enum_name}
use Rattle.juniper_meta.specs.MetaView.{Meta}
use Rattle.juniper_schema.specs.MadeTypes as made
use Rattle.juniper_schema.specs.MadeTypes.{Made}
use Rattle.juniper_schema.specs.SchemaView.{meta_of}
use Rattle.juniper_sdl.specs.Definitions.{is_left_out}
use Rattle.juniper_sdl.specs.declared.fault.Flaw.{Flaw}
use Rattle.juniper_sdl.specs.declared.fault.Flaw.TheVariants.{NoName, NoParts}
use Rattle.juniper_sdl.specs.declared.fault.SdlFault.{SdlFault}
use Rattle.juniper_sdl.specs.declared.fault.SdlError.{SdlError}
use Rattle.juniper_sdl.specs.declared.fault.SdlError.TheVariants as errors

-- ## Names

unfoldable mutual
  -- a constant whose names are Names, whose enum values are none of `true`, `false` and `null`, and whose Ints are of 32 bits (2.9)
  pub is_constant : Input → Bool
  is_constant null = true
  is_constant (scalar (int z)) = fits_int z
  is_constant (scalar (text t)) = true
  is_constant (scalar (boolean b)) = true
  is_constant (enumerated w) = is_enum_name w
  is_constant (variable x) = false
  is_constant (list is) = are_constants is
  is_constant (object fs) = have_constants fs

  pub are_constants : InputItems → Bool
  are_constants no_items = true
  are_constants (item v at rest) = is_constant v && are_constants rest

  pub have_constants : InputFields → Bool
  have_constants no_fields = true
  have_constants (input_field k k_at v v_at rest) = is_name k && (is_constant v && have_constants rest)

-- a default value, where there is one, is such a constant
unfoldable pub default_is_constant : Option Input → Bool
default_is_constant None = true
default_is_constant (Some v) = is_constant v

-- the names of an argument or input field are Names
unfoldable pub input_is_written : InputDeclaration → Bool
input_is_written d = is_name d.name && (is_name (innermost d.of_type) && default_is_constant d.default)

-- the names of a field and of its arguments are Names
unfoldable pub field_is_written : FieldDeclaration → Bool
field_is_written f = is_name f.name && (is_name (innermost f.of_type) && list_all input_is_written f.arguments)

-- a field whose name is reserved, as `__typename` is, is not listed (4.1)
unfoldable pub is_listed : FieldDeclaration → Bool
is_listed f = not (is_reserved f.name)

-- the same of a field, if it is listed
unfoldable pub listed_is_written : FieldDeclaration → Bool
listed_is_written f = not (is_listed f) || field_is_written f

-- an enum's value is a Name, and none of `true`, `false` and `null` (3.9)
unfoldable pub value_is_written : EnumValue → Bool
value_is_written v = is_enum_name v.name

-- the names of what a type declares are Names
unfoldable pub names_are_written : Shape → Bool
names_are_written (enum_type vs) = list_all value_is_written vs
names_are_written (object_type fs is) = list_all listed_is_written fs && list_all is_name is
names_are_written (interface_type fs is) = list_all listed_is_written fs && list_all is_name is
names_are_written (union_type ms) = list_all is_name ms
names_are_written (input_object_type ds) = list_all input_is_written ds
names_are_written _ = true

-- ## Parts

-- the list has an item
unfoldable pub is_some_list : {A : Type 0} → List A → Bool
is_some_list [] = false
is_some_list (x ∷ xs) = true

-- a type that declares a part, where its kind asks for one; what stands in a registry alone declares none
unfoldable pub has_parts : Shape → Bool
has_parts (scalar_type k url) = true
has_parts (enum_type vs) = is_some_list vs
has_parts (object_type fs is) = list_any is_listed fs
has_parts (interface_type fs is) = list_any is_listed fs
has_parts (union_type ms) = is_some_list ms
has_parts (input_object_type ds) = is_some_list ds
has_parts (list_type size t) = false
has_parts (nullable_type t) = false
has_parts placeholder = false

-- ## Faults

-- a flaw, and the name of the type that has it
pub record Fault : Type 0 where
  pub flaw : Flaw
  pub type_name : Name

abbrev pub view_fault : SdlFault → Fault
view_fault f = record { flaw = f.flaw; type_name = f.type_name.now }

-- the fault of a name
unfoldable pub name_fault : Name → Option Fault
name_fault n = cond (is_name n) None (Some (record { flaw = NoName; type_name = n }))

-- the fault of a type of this name
unfoldable pub type_fault : Name → Shape → Option Fault
type_fault n x = cond (has_parts x) (cond (is_name n && names_are_written x) None (Some (record { flaw = NoName; type_name = n })))
    (Some (record { flaw = NoParts; type_name = n }))

-- none of a type that is left out
unfoldable pub named_fault : Name → Shape → Option Fault
named_fault n x = cond (is_left_out n) None (type_fault n x)

abbrev pub meta_fault : Meta → Option Fault
meta_fault m = named_fault (unwrap_or m.name []) m.shape

-- the fault of a type of a schema; that of a list or of a non-null type is none
abbrev pub made_fault : Made → Option Fault
made_fault (made.concrete m) = meta_fault m
made_fault (made.list size t) = None
made_fault (made.non_null t) = None

-- the first fault of types
abbrev pub first_fault : List Made → Option Fault
first_fault [] = None
first_fault (t ∷ ts) = option_or (made_fault t) (first_fault ts)

-- the fault of the mutation type's name, where there is one
unfoldable pub mutation_fault : Option Name → Option Fault
mutation_fault None = None
mutation_fault (Some n) = name_fault n

-- the first fault of a schema: of the names of its root types, and then of the types that it lists
unfoldable pub sdl_fault : Schema → Option Fault
sdl_fault s = option_or (option_or (name_fault s.query) (mutation_fault s.mutation)) (first_fault (map (λ e. made.concrete (meta_of e)) (type_list s)))

-- an error tells the fault, or that memory was refused
abbrev pub Tells : Option Fault → SdlError → Type 0
Tells found (errors.Fault f) = found ≡ Some (view_fault f)
Tells found errors.Memory = Unit {0}
