-- What a schema with the demo's types declares, in whatever order it has them.
use Rattle.std.specs.Prelude.{codes}
use Rattle.std.proofs.Common.{refl}
use Rattle.graphql_spec.specs.Schema.{Schema, plain_field, plain_input}
use Rattle.graphql_spec.specs.BuiltIns.{value_named}
use Rattle.graphql_spec.specs.Types.{nullable}
use Rattle.graphql_spec.specs.Fields.{entry_in, shape_of, or_else, type_named, fields_of, field_in, field_of, typename_field}
use Rattle.juniper_demo_server.specs.DemoSchema.{IsDemoSchema}
use Rattle.juniper_demo.proofs.Declared.{Declares, queried}

module _ (s : Schema) (demo : IsDemoSchema s) where
  pub declared : Declares (queried s.entries s.mutation)
  unfolding field_of type_named or_else entry_in shape_of fields_of field_in plain_field plain_input value_named nullable typename_field
  declared = record {
    id = rw (← demo.same.entries (codes "Query")) refl;
    name = rw (← demo.same.entries (codes "Query")) refl;
    fail = rw (← demo.same.entries (codes "Query")) refl;
    ids = rw (← demo.same.entries (codes "ID")) refl;
    strings = rw (← demo.same.entries (codes "String")) refl;
    ints = rw (← demo.same.entries (codes "Int")) refl;
    booleans = rw (← demo.same.entries (codes "Boolean")) refl;
  }
