-- What conversions of nullable types answer (3.12).
use Rattle.std.specs.Prelude.{◌≡◌, ◌≢◌, Option, Some, None, Result, Ok, Err}
use Rattle.graphql_spec.specs.Constants.{Constant, null}

-- a nullable type (3.12): null is `None`, any other value goes as the type inside
abbrev pub GivesOption : {A E : Type 0} → (Constant → Result A E → Type 0) → Constant → Result (Option A) E → Type 0
GivesOption inner v (Ok None) = v ≡ null
GivesOption inner v (Ok (Some x)) = (v ≢ null) × inner v (Ok x)
GivesOption inner v (Err e) = (v ≢ null) × inner v (Err e)

-- how a value of a nullable type is written
abbrev pub option_input : {A : Type 0} → (A → Constant) → Option A → Constant
option_input inner None = null
option_input inner (Some x) = inner x
