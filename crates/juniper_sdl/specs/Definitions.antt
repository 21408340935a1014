-- A schema as a text of the language for type systems (3).
use Rattle.std.specs.Prelude.{◌++◌, ◌∷◌, ◌||◌, Bool, cond, List, [], codes, unwrap_or, Option, Some, None}
use Rattle.std.specs.List.{flat_map, join_by, list_any}
use Rattle.std.specs.Str.{bytes_eq}
use Rattle.graphql_spec.specs.Display.{display, quoted}
use Rattle.graphql_spec.specs.Executable.{is_reserved}
use Rattle.graphql_spec.specs.Inputs.{Input}
use Rattle.graphql_spec.specs.Schema.{Deprecation, current, deprecated, EnumValue, FieldDeclaration, InputDeclaration, Schema, Shape}
use Rattle.graphql_spec.specs.Schema.{scalar_type, enum_type, object_type, interface_type, union_type, input_object_type, list_type, nullable_type}
use Rattle.graphql_spec.specs.Schema.{placeholder}
use Rattle.graphql_spec.specs.Shown.{Name, Text}
use Rattle.graphql_spec.specs.TypeList.{type_list}
use Rattle.graphql_spec.specs.Types.{type_text}
use Rattle.juniper_meta.specs.MetaView.{Meta}
use Rattle.juniper_schema.specs.MadeTypes.{Made, concrete, list, non_null}
use Rattle.juniper_schema.specs.SchemaView.{meta_of}

-- ## Parts

-- Description: a StringValue, and what stands behind it
abbrev pub description_text : Text → Option Text → Text
description_text behind None = []
description_text behind (Some d) = quoted d ++ behind

-- the directive of what is deprecated (3.13.3)
abbrev pub deprecation_text : Deprecation → Text
deprecation_text current = []
deprecation_text (deprecated None) = codes " @deprecated"
deprecation_text (deprecated (Some reason)) = codes " @deprecated(reason: " ++ (quoted reason ++ codes ")")

-- the directive of a scalar that is specified at an address (3.13.4)
abbrev pub specified_text : Option Text → Text
specified_text None = []
specified_text (Some url) = codes " @specifiedBy(url: " ++ (quoted url ++ codes ")")

-- DefaultValue (3.6.1)
abbrev pub default_text : Option Input → Text
default_text None = []
default_text (Some v) = codes " = " ++ display v

-- InputValueDefinition (3.6.1), but for its description
abbrev pub input_text : InputDeclaration → Text
input_text d = d.name ++ (codes ": " ++ (type_text d.of_type ++ default_text d.default))

-- an argument, with its description in its line
abbrev pub argument_text : InputDeclaration → Text
argument_text d = description_text (codes " ") d.description ++ input_text d

-- ArgumentsDefinition (3.6.1)
abbrev pub arguments_text : List InputDeclaration → Text
arguments_text [] = []
arguments_text (d ∷ ds) = codes "(" ++ (join_by argument_text (codes ", ") (d ∷ ds) ++ codes ")")

-- a member of a type in a line of its own, behind its description
abbrev pub member_text : Option Text → Text → Text
member_text description text = codes "  " ++ (description_text (codes "\n  ") description ++ (text ++ codes "\n"))

-- FieldDefinition (3.6)
abbrev pub field_text : FieldDeclaration → Text
field_text f =
    member_text f.description (f.name ++ (arguments_text f.arguments ++ (codes ": " ++ (type_text f.of_type ++ deprecation_text f.deprecation))))

-- a field whose name is reserved, as `__typename` is, is not declared (4.1)
abbrev pub listed_field : FieldDeclaration → Text
listed_field f = cond (is_reserved f.name) [] (field_text f)

-- EnumValueDefinition (3.9)
abbrev pub value_text : EnumValue → Text
value_text v = member_text v.description (v.name ++ deprecation_text v.deprecation)

-- a field of an input object (3.10)
abbrev pub input_field_text : InputDeclaration → Text
input_field_text d = member_text d.description (input_text d)

-- ImplementsInterfaces (3.6)
abbrev pub implements_text : List Name → Text
implements_text [] = []
implements_text (i ∷ is) = codes " implements " ++ join_by (λ n. n) (codes " & ") (i ∷ is)

-- ## Types

abbrev pub block_text : Text → Text
block_text members = codes " {\n" ++ (members ++ codes "}\n")

-- TypeDefinition (3.4), but for its description; what stands in a registry alone has none
abbrev pub definition_text : Name → Shape → Text
definition_text n (scalar_type k url) = codes "scalar " ++ (n ++ (specified_text url ++ codes "\n"))
definition_text n (enum_type vs) = codes "enum " ++ (n ++ block_text (flat_map value_text vs))
definition_text n (object_type fs is) = codes "type " ++ (n ++ (implements_text is ++ block_text (flat_map listed_field fs)))
definition_text n (interface_type fs is) = codes "interface " ++ (n ++ (implements_text is ++ block_text (flat_map listed_field fs)))
definition_text n (union_type ms) = codes "union " ++ (n ++ (codes " = " ++ (join_by (λ m. m) (codes " | ") ms ++ codes "\n")))
definition_text n (input_object_type ds) = codes "input " ++ (n ++ block_text (flat_map input_field_text ds))
definition_text n (list_type size t) = []
definition_text n (nullable_type t) = []
definition_text n placeholder = []

-- the scalars that every schema has (3.5), which are left out, as are the types of introspection (4)
abbrev pub is_left_out : Name → Bool
is_left_out n = is_reserved n
    || list_any (bytes_eq n) (codes "Int" ∷ codes "Float" ∷ codes "String" ∷ codes "Boolean" ∷ codes "ID" ∷ [])

-- a declared type, behind a blank line and its description
abbrev pub named_text : Name → Meta → Text
named_text n m = cond (is_left_out n) [] (codes "\n" ++ (description_text (codes "\n") m.description ++ definition_text n m.shape))

abbrev pub meta_text : Meta → Text
meta_text m = named_text (unwrap_or m.name []) m

-- a type of a schema that is neither a list nor non-null
abbrev pub made_text : Made → Text
made_text (concrete m) = meta_text m
made_text (list size t) = []
made_text (non_null t) = []

-- ## Schemas

abbrev pub mutation_text : Option Name → Text
mutation_text None = []
mutation_text (Some n) = codes "  mutation: " ++ (n ++ codes "\n")

-- SchemaDefinition (3.3.1)
abbrev pub root_text : Schema → Text
root_text s = codes "schema {\n  query: " ++ (s.query ++ (codes "\n" ++ (mutation_text s.mutation ++ codes "}\n")))

-- the roots, and then the types, by name
abbrev pub schema_text : Schema → Text
schema_text s = root_text s ++ flat_map (λ e. meta_text (meta_of e)) (type_list s)
