-- What conversions of `Nullable` answer (2.9.5, 3.12).
use Rattle.std.specs.Prelude.{◌≡◌, ◌≢◌, Result, Ok, Err}
use Rattle.graphql_spec.specs.Constants.{Constant, null}
use Rattle.juniper_conversions.specs.declared.nullable.Nullable.{Nullable}
use Rattle.juniper_conversions.specs.declared.nullable.Nullable.TheVariants as nullable

-- `Nullable`: null is the null that is written, any other value goes as the type inside
abbrev pub GivesNullable : {A E : Type 0} → (Constant → Result A E → Type 0) → Constant → Result (Nullable A) E → Type 0
GivesNullable inner v (Ok nullable.ImplicitNull) = ⊥
GivesNullable inner v (Ok nullable.ExplicitNull) = v ≡ null
GivesNullable inner v (Ok (nullable.Some x)) = (v ≢ null) × inner v (Ok x)
GivesNullable inner v (Err e) = (v ≢ null) × inner v (Err e)

-- where there is no value, `Nullable` says so
abbrev pub GivesImplicit : {A E : Type 0} → Result (Nullable A) E → Type 0
GivesImplicit answer = answer ≡ Ok nullable.ImplicitNull

-- how a nullable is written: both nulls as null
abbrev pub nullable_input : {A : Type 0} → (A → Constant) → Nullable A → Constant
nullable_input inner nullable.ImplicitNull = null
nullable_input inner nullable.ExplicitNull = null
nullable_input inner (nullable.Some x) = inner x
