-- The schema of a root, by a registry and the names of two root types (3.3).
use Rattle.std.specs.Prelude.{◌≡◌, true, false, codes, cond, map, Option, Some, None, option_map, IsTrue, Result, Ok, Err}
use Rattle.std.specs.Str.{bytes_eq}
use Rattle.graphql_spec.specs.Executable.{is_executable, names_differ}
use Rattle.graphql_spec.specs.Fields.{entry_in}
use Rattle.graphql_spec.specs.Schema.{Schema}
use Rattle.graphql_spec.specs.Shown.{Name}
use Rattle.juniper_registry.specs.Entries.{Table}
use Rattle.juniper_schema.specs.SchemaView.{with_built_ins}
use Rattle.juniper_intro.specs.declared.error.RootError.{RootError}
use Rattle.juniper_intro.specs.declared.error.RootError.TheVariants.{NotExecutable, Memory}

-- the mutation type of a name: there is none, where the name is that of no mutation
abbrev pub mutation_type : Name → Option Name
mutation_type n = cond (bytes_eq n (codes "_EmptyMutation")) None (Some n)

-- a schema with a registry's types and the built-in ones, each at its name, and with root types of these names
pub record IsSchemaOf (types : Table) (query mutation : Option Name) (s : Schema) : Type 0 where
  pub held : (n : Name) → entry_in s.entries n ≡ with_built_ins n (types n)
  pub distinct : names_differ (map (λ e. e.key) s.entries) ≡ true
  pub query_is : query ≡ Some s.query
  pub mutation_is : option_map mutation_type mutation ≡ Some s.mutation

-- what is made has the registry's schema, which can be executed; it is refused exactly where none such can be; or memory is refused
abbrev pub Makes : {A : Type 0} → (A → Schema) → Table → Option Name → Option Name → Result A RootError → Type 0
Makes schema types query mutation (Ok r) = IsSchemaOf types query mutation (schema r) × IsTrue (is_executable (schema r))
Makes schema types query mutation (Err NotExecutable) = (s : Schema) → IsSchemaOf types query mutation s → is_executable s ≡ false
Makes schema types query mutation (Err Memory) = Unit {0}
