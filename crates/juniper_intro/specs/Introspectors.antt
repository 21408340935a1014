-- What nodes of introspection are looked up in, as code has it (4.2).
use Rattle.std.specs.Prelude.{ℕ, List}
use Rattle.std.specs.declared.cmp.PartialEq.{Ghosts as Equality}
use Rattle.std.specs.declared.fmt.Debug.{Ghosts as Shows}
use Rattle.graphql_spec.specs.Shown.{Name}
use Rattle.juniper_intro.specs.Naming as names
use Rattle.juniper_intro.specs.declared.introspector.Introspector.{Introspector}
use Rattle.juniper_schema.specs.declared.schema.SchemaType.{SchemaType}
use Rattle.juniper_syntax.specs.declared.scalar.ScalarValue.{Ghosts as Scalars}

module _ {S : Type 0} {scalar : Scalars S} {equality : Equality S} {shows : Shows S} where
  -- the schema
  abbrev pub schema_of : Introspector S scalar equality shows → SchemaType S scalar equality shows
  schema_of r = r.schema

  -- the names of its types, in an order
  abbrev pub names_of : Introspector S scalar equality shows → List Name
  names_of r = names.names_in r.names

  -- the number of each
  abbrev pub number_of : Introspector S scalar equality shows → Name → ℕ
  number_of r = names.number_of r.names
