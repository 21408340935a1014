-- Words for declarations of types, as they are written in Rust (3).
use Rattle.std.specs.Prelude.{true, List, [], ◌∷◌, ◌++◌, map, Option, Some, None}
use Rattle.graphql_spec.specs.Shown.{Name}
use Rattle.graphql_spec.specs.Inputs as inputs
use Rattle.graphql_spec.specs.Inputs.{Input}
use Rattle.graphql_spec.specs.Constants as constants
use Rattle.graphql_spec.specs.Constants.{Constant}
use Rattle.graphql_spec.specs.Types.{TypeRef, named, list_of, nullable}
use Rattle.graphql_spec.specs.BuiltIns.{value_named}
use Rattle.graphql_spec.specs.Schema as schema
use Rattle.graphql_spec.specs.Schema.{FieldDeclaration, InputDeclaration, object_type, interface_type}
use Rattle.graphql_spec.specs.Fields.{typename_field}
use Rattle.juniper_meta.specs.MetaView.{Meta, named_meta}

-- ## References (2.11)

-- `n!`, as a Rust type of this name is referred to
abbrev pub type_named : Name → TypeRef
type_named n = named true n

-- `[t]!`, as a `Vec` is
abbrev pub list_type : TypeRef → TypeRef
list_type t = list_of true None t

-- `t`, nullable, as an `Option` is
abbrev pub optional : TypeRef → TypeRef
optional t = nullable t

-- ## Arguments (3.6.1)

-- an argument or input field `n: t = v` without description
abbrev pub input_with_default : Name → TypeRef → Input → InputDeclaration
input_with_default n t v = record { name = n; description = None; of_type = t; default = Some v }

-- the one input value of this meaning; lists and objects are written in several ways
abbrev pub input_of : Constant → Option Input
input_of constants.null = Some inputs.null
input_of (constants.scalar s) = Some (inputs.scalar s)
input_of (constants.enumerated e) = Some (inputs.enumerated e)
input_of (constants.variable x) = Some (inputs.variable x)
input_of (constants.list vs) = None
input_of (constants.object ms) = None

-- ## Types

-- an object with these fields, and `__typename`, that lists these interfaces (3.6)
abbrev pub object : Name → List FieldDeclaration → List Name → Meta
object n fs is = named_meta n (object_type (fs ++ typename_field ∷ []) is)

-- an interface with these fields, and `__typename` (3.7)
abbrev pub interface : Name → List FieldDeclaration → Meta
interface n fs = named_meta n (interface_type (fs ++ typename_field ∷ []) [])

-- a union of these types (3.8)
abbrev pub union : Name → List Name → Meta
union n ms = named_meta n (schema.union_type ms)

-- an enum of these values (3.9)
abbrev pub enum : Name → List Name → Meta
enum n vs = named_meta n (schema.enum_type (map value_named vs))

-- an input object with these fields (3.10)
abbrev pub input_object : Name → List InputDeclaration → Meta
input_object n fs = named_meta n (schema.input_object_type fs)
