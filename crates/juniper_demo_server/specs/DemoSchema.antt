-- The demo's schema (3).
use Rattle.std.specs.Prelude.{◌≡◌, codes, true, false, ◌∷◌, map, Some}
use Rattle.graphql_spec.specs.Executable.{IsSameSchema, names_differ}
use Rattle.graphql_spec.specs.Schema.{Schema}
use Rattle.juniper_meta.specs.MetaView.{entry_at}
use Rattle.juniper_schema.specs.SchemaView.{built_in}
use Rattle.juniper_demo_server.specs.DemoTypes.{demo_declarations}

-- the built-in scalars (3.5), and the demo's own types
abbrev pub demo_schema : Schema
demo_schema = record {
  entries = built_in (codes "String") false true false ∷ built_in (codes "Boolean") false false true ∷ built_in (codes "Int") true false false
      ∷ built_in (codes "ID") true true false ∷ map (λ d. entry_at d.0 d.1) demo_declarations;
  query = codes "Query";
  mutation = Some (codes "Mutation");
}

-- a schema with these types, each once and in whatever order (3.3)
pub record IsDemoSchema (s : Schema) : Type 0 where
  pub same : IsSameSchema demo_schema s
  pub distinct : names_differ (map (λ e. e.key) s.entries) ≡ true
