-- The schema of types that are told by data, under the names that root types have by default (3.3.1).
use Rattle.std.specs.Prelude.{◌≡◌, ◌⊎◌, true, false, Some, codes, Result, Ok, Err}
use Rattle.graphql_spec.specs.Schema.{Schema}
use Rattle.graphql_spec.specs.Shown.{Name}
use Rattle.juniper_words.specs.Data.{Declarations, collide, nowhere, with_all}
use Rattle.juniper_intro.specs.Roots.{Makes}
use Rattle.juniper_registry.specs.Entries.{Table}
use Rattle.juniper_intro.specs.declared.error.RootError.{RootError}
use Rattle.juniper_intro.specs.declared.error.RootError.TheVariants.{NotExecutable, Memory}

-- a root over these declarations alone, and a mutation type of this name
abbrev pub MakesOver : {A : Type 0} → (A → Schema) → Declarations → Name → Result A RootError → Type 0
MakesOver schema ds mutation r = Makes schema (with_all ds nowhere) (Some (codes "Query")) (Some mutation) r

-- it is refused exactly where two of the declarations have one name, or their schema cannot be executed; or memory is refused
abbrev pub Serves : {A : Type 0} → (A → Schema) → Declarations → Name → Result A RootError → Type 0
Serves schema ds mutation (Ok r) = (collide ds nowhere ≡ false) × MakesOver schema ds mutation (Ok r)
Serves schema ds mutation (Err NotExecutable) = (collide ds nowhere ≡ true) ⊎ MakesOver schema ds mutation (Err NotExecutable)
Serves schema ds mutation (Err Memory) = Unit {0}

-- a root over these declarations beside what stands in a table, and a mutation type of this name
abbrev pub MakesBeside : {A : Type 0} → (A → Schema) → Table → Declarations → Name → Result A RootError → Type 0
MakesBeside schema old ds mutation r = Makes schema (with_all ds old) (Some (codes "Query")) (Some mutation) r

-- it is refused exactly where the name of one of the declarations is taken, or the schema of all cannot be executed; or memory is refused
abbrev pub ServesWith : {A : Type 0} → (A → Schema) → Table → Declarations → Name → Result A RootError → Type 0
ServesWith schema old ds mutation (Ok r) = (collide ds old ≡ false) × MakesBeside schema old ds mutation (Ok r)
ServesWith schema old ds mutation (Err NotExecutable) = (collide ds old ≡ true) ⊎ MakesBeside schema old ds mutation (Err NotExecutable)
ServesWith schema old ds mutation (Err Memory) = Unit {0}
