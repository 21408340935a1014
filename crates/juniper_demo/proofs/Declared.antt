-- What the request asks of the demo's schema: the declarations of three fields, and what their types are.
use Rattle.std.specs.Prelude.{◌≡◌, true, false, codes, List, [], Option, None, Some}
use Rattle.graphql_spec.specs.Shown.{Name}
use Rattle.graphql_spec.specs.Types.{named}
use Rattle.graphql_spec.specs.Schema.{Entry, Schema, FieldDeclaration, plain_field, scalar_type}
use Rattle.graphql_spec.specs.Fields.{field_of, type_named}

-- a schema whose query type is `Query`
abbrev pub queried : List Entry → Option Name → Schema
queried es m = record { entries = es; query = codes "Query"; mutation = m }

abbrev pub id_field : FieldDeclaration
id_field = plain_field (codes "id") [] (named true (codes "ID"))

abbrev pub name_field : FieldDeclaration
name_field = plain_field (codes "name") [] (named true (codes "String"))

abbrev pub fail_field : FieldDeclaration
fail_field = plain_field (codes "fail") [] (named false (codes "Int"))

pub record Declares (s : Schema) : Type 0 where
  pub id : field_of s (codes "Query") (codes "id") ≡ Some id_field
  pub name : field_of s (codes "Query") (codes "name") ≡ Some name_field
  pub fail : field_of s (codes "Query") (codes "fail") ≡ Some fail_field
  pub ids : type_named s (codes "ID") ≡ Some (scalar_type (record { int = true; text = true; boolean = false }) None)
  pub strings : type_named s (codes "String") ≡ Some (scalar_type (record { int = false; text = true; boolean = false }) None)
  pub ints : type_named s (codes "Int") ≡ Some (scalar_type (record { int = true; text = false; boolean = false }) None)
  pub booleans : type_named s (codes "Boolean") ≡ Some (scalar_type (record { int = false; text = false; boolean = true }) None)
