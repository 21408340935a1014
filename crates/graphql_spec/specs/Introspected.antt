-- What a schema says of its types, as data (4.2).
use Rattle.std.specs.Prelude.{Bool, true, false, not, ◌&&◌, ◌||◌, codes, map, List, Option, Some, None, option_map}
use Rattle.std.specs.List.{filter, list_any}
use Rattle.std.specs.Option.{option_and_then}
use Rattle.std.specs.Str.{bytes_eq}
use Rattle.graphql_spec.specs.Shown.{Text, Name}
use Rattle.graphql_spec.specs.Types.{TypeRef, named, list_of}
use Rattle.graphql_spec.specs.Schema.{Deprecation, current, deprecated, InputDeclaration, FieldDeclaration, EnumValue, Shape, scalar_type, enum_type}
use Rattle.graphql_spec.specs.Schema.{object_type, interface_type, union_type, input_object_type, Entry, Schema}
use Rattle.graphql_spec.specs.BuiltIns.{introspection_types}
use Rattle.graphql_spec.specs.Fields.{entry_in, shape_of, or_else, is_object, interfaces_of}
use Rattle.graphql_spec.specs.Executable.{is_reserved}
use Rattle.graphql_spec.specs.TypeList.{in_order, comes_before}

-- ## Deprecation (3.13.3)

-- whether it is deprecated
unfoldable pub is_deprecated : Deprecation → Bool
is_deprecated current = false
is_deprecated (deprecated reason) = true

-- why it is deprecated, where a reason is given
unfoldable pub reason_of : Deprecation → Option Text
reason_of current = None
reason_of (deprecated reason) = reason

-- ## References (4.2.2)

-- the name that a reference is: a list and a non-null type have none
unfoldable pub own_name : TypeRef → Option Name
own_name (named false n) = Some n
own_name (named true n) = None
own_name (list_of r size t) = None

-- the type that a non-null type or a list is made of
unfoldable pub of_type : TypeRef → Option TypeRef
of_type (named true n) = Some (named false n)
of_type (list_of true size t) = Some (list_of false size t)
of_type (list_of false size t) = Some t
of_type (named false n) = None

-- what is declared at a name: the entry, else the introspection type
unfoldable pub declaration_of : Schema → Name → Option Entry
declaration_of s n = or_else (entry_in s.entries n) (entry_in introspection_types n)

-- what is declared at the name that a reference is
unfoldable pub declared_as : Schema → TypeRef → Option Entry
declared_as s t = option_and_then (declaration_of s) (own_name t)

-- ## What is declared (4.2.2)

-- the kind of a declared type
unfoldable pub declared_kind : Option Shape → Option Name
declared_kind (Some (scalar_type k url)) = Some (codes "SCALAR")
declared_kind (Some (object_type fs is)) = Some (codes "OBJECT")
declared_kind (Some (interface_type fs is)) = Some (codes "INTERFACE")
declared_kind (Some (union_type ms)) = Some (codes "UNION")
declared_kind (Some (enum_type vs)) = Some (codes "ENUM")
declared_kind (Some (input_object_type ds)) = Some (codes "INPUT_OBJECT")
declared_kind _ = None

-- the kind of a type
unfoldable pub kind_of : Schema → TypeRef → Option Name
kind_of s (named true n) = Some (codes "NON_NULL")
kind_of s (list_of true size t) = Some (codes "NON_NULL")
kind_of s (list_of false size t) = Some (codes "LIST")
kind_of s (named false n) = declared_kind (shape_of (declaration_of s n))

-- the description that a type was given
unfoldable pub description_of : Option Entry → Option Text
description_of None = None
description_of (Some e) = e.description

-- the address at which a scalar is specified (3.5.5)
unfoldable pub url_of : Option Shape → Option Text
url_of (Some (scalar_type k url)) = url
url_of _ = None

-- whether a field is listed: its name is not reserved, and it is not deprecated, or those are asked for too
unfoldable pub lists_field : Bool → FieldDeclaration → Bool
lists_field deprecated_too f = not (is_reserved f.name) && (deprecated_too || not (is_deprecated f.deprecation))

-- the fields that an object or interface declares
unfoldable pub own_fields : Option Shape → Option (List FieldDeclaration)
own_fields (Some (object_type fs is)) = Some fs
own_fields (Some (interface_type fs is)) = Some fs
own_fields _ = None

-- those that are listed, in declared order
unfoldable pub listed_fields : Bool → Option Shape → Option (List FieldDeclaration)
listed_fields deprecated_too o = option_map (filter (lists_field deprecated_too)) (own_fields o)

-- the interfaces that an object or interface lists, in declared order
unfoldable pub listed_interfaces : Option Shape → Option (List Name)
listed_interfaces (Some (object_type fs is)) = Some is
listed_interfaces (Some (interface_type fs is)) = Some is
listed_interfaces _ = None

-- an object that lists the interface n
unfoldable pub is_implementer : Name → Entry → Bool
is_implementer n e = is_object (Some e.shape) && list_any (bytes_eq n) (interfaces_of (Some e.shape))

-- the objects that list the interface n, by name
unfoldable pub implementers : Schema → Name → List Name
implementers s n = map (λ e. e.key) (in_order comes_before (filter (is_implementer n) s.entries))

-- the object types that are possible at the interface or union of a name
unfoldable pub possible_types : Schema → Name → Option Shape → Option (List Name)
possible_types s n (Some (interface_type fs is)) = Some (implementers s n)
possible_types s n (Some (union_type ms)) = Some ms
possible_types s n _ = None

-- whether an enum's value is listed: it is not deprecated, or those are asked for too
unfoldable pub lists_value : Bool → EnumValue → Bool
lists_value deprecated_too v = deprecated_too || not (is_deprecated v.deprecation)

-- the values of an enum
unfoldable pub own_values : Option Shape → Option (List EnumValue)
own_values (Some (enum_type vs)) = Some vs
own_values _ = None

-- those that are listed, in declared order
unfoldable pub listed_values : Bool → Option Shape → Option (List EnumValue)
listed_values deprecated_too o = option_map (filter (lists_value deprecated_too)) (own_values o)

-- the fields of an input object, in declared order
unfoldable pub listed_inputs : Option Shape → Option (List InputDeclaration)
listed_inputs (Some (input_object_type ds)) = Some ds
listed_inputs _ = None
