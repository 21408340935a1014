-- How the code's declarations are seen (3).
use Rattle.std.specs.Prelude.{Bool, true, false, List, [], ◌∷◌, ◌++◌, map, Option, Some, None, option_map, unwrap_or, codes, String, string_bytes}
use Rattle.std.specs.declared.alloc.Global.{Global}
use Rattle.graphql_spec.specs.Shown.{Name, Text, Shown}
use Rattle.graphql_spec.specs.Inputs.{Input}
use Rattle.graphql_spec.specs.Types.{TypeRef, innermost}
use Rattle.graphql_spec.specs.Schema as spec
use Rattle.graphql_spec.specs.Schema.{Entry, Shape, Deprecation, FieldDeclaration, InputDeclaration, DirectiveDeclaration, object_type, interface_type}
use Rattle.graphql_spec.specs.Schema.{scalar_type, enum_type, union_type, input_object_type, list_type, nullable_type, placeholder, current, deprecated}
use Rattle.juniper_syntax.specs.DocumentView.{items_or_none}
use Rattle.juniper_syntax.specs.InputView.{view_input}
use Rattle.juniper_syntax.specs.TypeView as types
use Rattle.juniper_syntax.specs.declared.types.«Type».{«Type» as CodeType}
use Rattle.juniper_meta.specs.declared.declaration.Argument.{Argument}
use Rattle.juniper_meta.specs.declared.declaration.Field.{Field}
use Rattle.juniper_meta.specs.declared.declaration.EnumValue.{EnumValue}
use Rattle.juniper_meta.specs.declared.declaration.DeprecationStatus.{DeprecationStatus}
use Rattle.juniper_meta.specs.declared.declaration.DeprecationStatus.TheVariants as status
use Rattle.juniper_meta.specs.declared.directive.DirectiveLocation.{DirectiveLocation}
use Rattle.juniper_meta.specs.declared.directive.DirectiveLocation.TheVariants as place
use Rattle.juniper_meta.specs.declared.directive.DirectiveType.{DirectiveType}
use Rattle.juniper_meta.specs.declared.kinds.ScalarKinds.{ScalarKinds}
use Rattle.juniper_meta.specs.declared.meta.ScalarMeta.{ScalarMeta}
use Rattle.juniper_meta.specs.declared.meta.EnumMeta.{EnumMeta}
use Rattle.juniper_meta.specs.declared.meta.ObjectMeta.{ObjectMeta}
use Rattle.juniper_meta.specs.declared.meta.InterfaceMeta.{InterfaceMeta}
use Rattle.juniper_meta.specs.declared.meta.UnionMeta.{UnionMeta}
use Rattle.juniper_meta.specs.declared.meta.InputObjectMeta.{InputObjectMeta}
use Rattle.juniper_meta.specs.declared.meta.ListMeta.{ListMeta}
use Rattle.juniper_meta.specs.declared.meta.NullableMeta.{NullableMeta}
use Rattle.juniper_meta.specs.declared.meta.PlaceholderMeta.{PlaceholderMeta}
use Rattle.juniper_meta.specs.declared.meta.MetaType.{MetaType}
use Rattle.juniper_meta.specs.declared.meta.MetaType.TheVariants as metas

-- what a declaration of a type says, apart from the key that it stands at
pub record Meta : Type 0 where
  pub name : Option Name
  pub description : Option Text
  pub shape : Shape

-- the entry of a declaration at a key
abbrev pub entry_at : Name → Meta → Entry
entry_at k m = record { key = k; name = m.name; description = m.description; shape = m.shape }

-- a declaration of this name, without description
abbrev pub named_meta : Name → Shape → Meta
named_meta n x = record { name = Some n; description = None; shape = x }

-- a declaration without name
abbrev pub unnamed_meta : Shape → Meta
unnamed_meta x = record { name = None; description = None; shape = x }

-- ## Parts of declarations

-- a text that may be absent
abbrev pub view_text : Option (String Global) → Option Text
view_text = option_map (λ t. string_bytes t)

-- a reference to a type
abbrev pub view_type : CodeType (String Global) → TypeRef
view_type = types.view_type (λ n. string_bytes n)

-- the innermost names of types
abbrev pub innermost_names : List (CodeType (String Global)) → List Name
innermost_names = map (λ t. innermost (view_type t))

-- the kinds of scalars that are accepted
abbrev pub view_kinds : ScalarKinds → spec.ScalarKinds
view_kinds k = record { int = k.int; text = k.text; boolean = k.boolean }

-- whether something is deprecated
abbrev pub view_deprecation : DeprecationStatus → Deprecation
view_deprecation status.Current = current
view_deprecation (status.Deprecated reason) = deprecated (view_text reason)

-- an argument, or a field of an input object (3.6.1, 3.10)
abbrev pub view_argument : {S : Type 0} → (S → Shown) → Argument S → InputDeclaration
view_argument shown a = record {
  name = string_bytes a.name;
  description = view_text a.description;
  of_type = view_type a.arg_type;
  default = option_map (view_input shown) a.default_value;
}

-- a field (3.6)
abbrev pub view_field : {S : Type 0} → (S → Shown) → Field S → FieldDeclaration
view_field shown f = record {
  name = string_bytes f.name;
  description = view_text f.description;
  arguments = items_or_none (view_argument shown) f.arguments;
  of_type = view_type f.field_type;
  deprecation = view_deprecation f.deprecation_status;
}

-- a value of an enum (3.9)
abbrev pub view_enum_value : EnumValue → spec.EnumValue
view_enum_value v = record { name = string_bytes v.name; description = view_text v.description; deprecation = view_deprecation v.deprecation_status }

-- names in order
abbrev pub view_names : List (String Global) → List Name
view_names = map (λ n. string_bytes n)

-- ## Declarations of types

-- a scalar (3.5)
abbrev pub view_scalar : ScalarMeta → Meta
view_scalar m =
    record { name = Some (string_bytes m.name); description = view_text m.description; shape = scalar_type (view_kinds m.kinds) (view_text m.specified_by_url) }

-- an enum (3.9)
abbrev pub view_enum : EnumMeta → Meta
view_enum m = record { name = Some (string_bytes m.name); description = view_text m.description; shape = enum_type (map view_enum_value m.values.items) }

-- an object (3.6)
abbrev pub view_object : {S : Type 0} → (S → Shown) → ObjectMeta S → Meta
view_object shown m = record {
  name = Some (string_bytes m.name);
  description = view_text m.description;
  shape = object_type (map (view_field shown) m.fields.items) (view_names m.interface_names.items);
}

-- an interface (3.7)
abbrev pub view_interface : {S : Type 0} → (S → Shown) → InterfaceMeta S → Meta
view_interface shown m = record {
  name = Some (string_bytes m.name);
  description = view_text m.description;
  shape = interface_type (map (view_field shown) m.fields.items) (view_names m.interface_names.items);
}

-- a union (3.8)
abbrev pub view_union : UnionMeta → Meta
view_union m = record { name = Some (string_bytes m.name); description = view_text m.description; shape = union_type (view_names m.of_type_names.items) }

-- an input object (3.10)
abbrev pub view_input_object : {S : Type 0} → (S → Shown) → InputObjectMeta S → Meta
view_input_object shown m = record {
  name = Some (string_bytes m.name);
  description = view_text m.description;
  shape = input_object_type (map (view_argument shown) m.input_fields.items);
}

-- a list (3.11)
abbrev pub view_list : ListMeta → Meta
view_list m = record { name = None; description = None; shape = list_type m.expected_size (view_type m.of_type) }

-- a type that also takes null
abbrev pub view_nullable : NullableMeta → Meta
view_nullable m = record { name = None; description = None; shape = nullable_type (view_type m.of_type) }

-- a type that is not declared yet
abbrev pub view_placeholder : PlaceholderMeta → Meta
view_placeholder m = record { name = None; description = None; shape = placeholder }

-- any declaration
unfoldable pub view_meta : {S : Type 0} → (S → Shown) → MetaType S → Meta
view_meta shown (metas.Scalar m) = view_scalar m
view_meta shown (metas.List m) = view_list m
view_meta shown (metas.Nullable m) = view_nullable m
view_meta shown (metas.Object m) = view_object shown m
view_meta shown (metas.Enum m) = view_enum m
view_meta shown (metas.Interface m) = view_interface shown m
view_meta shown (metas.Union m) = view_union m
view_meta shown (metas.InputObject m) = view_input_object shown m
view_meta shown (metas.Placeholder m) = view_placeholder m

-- what a declaration is
abbrev pub shape_of : {S : Type 0} → (S → Shown) → MetaType S → Option Shape
shape_of shown m = Some (view_meta shown m).shape

-- its entry at its own name
abbrev pub own_entry : {S : Type 0} → (S → Shown) → MetaType S → Entry
own_entry shown m = entry_at (unwrap_or (view_meta shown m).name []) (view_meta shown m)

-- ## Directives (3.13)

-- a place where directives may stand
abbrev pub view_location : DirectiveLocation → Name
view_location place.Query = codes "QUERY"
view_location place.Mutation = codes "MUTATION"
view_location place.Subscription = codes "SUBSCRIPTION"
view_location place.Field = codes "FIELD"
view_location place.Scalar = codes "SCALAR"
view_location place.FragmentDefinition = codes "FRAGMENT_DEFINITION"
view_location place.FieldDefinition = codes "FIELD_DEFINITION"
view_location place.VariableDefinition = codes "VARIABLE_DEFINITION"
view_location place.FragmentSpread = codes "FRAGMENT_SPREAD"
view_location place.InlineFragment = codes "INLINE_FRAGMENT"
view_location place.EnumValue = codes "ENUM_VALUE"
view_location place.Schema = codes "SCHEMA"
view_location place.Object = codes "OBJECT"
view_location place.ArgumentDefinition = codes "ARGUMENT_DEFINITION"
view_location place.Interface = codes "INTERFACE"
view_location place.Union = codes "UNION"
view_location place.Enum = codes "ENUM"
view_location place.InputObject = codes "INPUT_OBJECT"
view_location place.InputFieldDefinition = codes "INPUT_FIELD_DEFINITION"

-- the directive of this name that may stand at these places, with these arguments
abbrev pub directive_of : {S : Type 0} → (S → Shown) → String Global → List DirectiveLocation → List (Argument S) → DirectiveDeclaration
directive_of shown n ls ds = record { name = string_bytes n; locations = map view_location ls; arguments = map (view_argument shown) ds }

-- a directive
abbrev pub view_directive : {S : Type 0} → (S → Shown) → DirectiveType S → DirectiveDeclaration
view_directive shown d = directive_of shown d.name d.locations.items d.arguments.items

-- ## What the calls that change a declaration give

-- a declaration with a description
abbrev pub with_description : Meta → Text → Meta
with_description m t = record m { description = Some t }

-- what lists interfaces, with these in place of those that it lists
abbrev pub listing : List Name → Shape → Shape
listing is (object_type fs _) = object_type fs is
listing is (interface_type fs _) = interface_type fs is
listing is x = x

-- an object or interface that lists these interfaces, in place of those that it lists
abbrev pub with_interfaces : Meta → List Name → Meta
with_interfaces m is = record m { shape = listing is m.shape }

-- a scalar that is specified at this address
abbrev pub specified_at : Text → Shape → Shape
specified_at url (scalar_type k _) = scalar_type k (Some url)
specified_at url x = x

-- the declaration of a scalar that is specified at this address
abbrev pub with_url : Meta → Text → Meta
with_url m url = record m { shape = specified_at url m.shape }

-- an argument with a description
abbrev pub described_argument : InputDeclaration → Text → InputDeclaration
described_argument a t = record a { description = Some t }

-- an argument with a default value (3.6.1)
abbrev pub with_default : InputDeclaration → Input → InputDeclaration
with_default a v = record a { default = Some v }

-- a field with a description
abbrev pub described_field : FieldDeclaration → Text → FieldDeclaration
described_field f t = record f { description = Some t }

-- a field with one more argument behind those that it has (3.6.1)
abbrev pub with_argument : FieldDeclaration → InputDeclaration → FieldDeclaration
with_argument f a = record f { arguments = f.arguments ++ a ∷ [] }

-- a field that is deprecated, with a reason or without one (3.13.3)
abbrev pub deprecated_field : FieldDeclaration → Option Text → FieldDeclaration
deprecated_field f reason = record f { deprecation = deprecated reason }

-- an enum's value with a description
abbrev pub described_value : spec.EnumValue → Text → spec.EnumValue
described_value v t = record v { description = Some t }

-- an enum's value that is deprecated, with a reason or without one (3.13.3)
abbrev pub deprecated_value : spec.EnumValue → Option Text → spec.EnumValue
deprecated_value v reason = record v { deprecation = deprecated reason }

-- ## What the calls that read a declaration answer

-- the kinds of scalars that a scalar accepts
unfoldable pub kinds_of : Shape → Option spec.ScalarKinds
kinds_of (scalar_type k url) = Some k
kinds_of _ = None

-- whether it stands for a type that is not declared yet
unfoldable pub is_placeholder : Shape → Bool
is_placeholder placeholder = true
is_placeholder _ = false
