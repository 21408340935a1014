-- What conversions to scalar types answer, as relations between what is converted and what is answered (3.5, 6.4.1).
use Rattle.std.specs.Prelude.{◌≡◌, ℤ, Bool, true, false, codes, ◌++◌, Option, Some, None, Result, Ok, Err}
use Rattle.std.specs.Option.{option_and_then}
use Rattle.std.specs.declared.alloc.Global.{Global}
use Rattle.std.specs.declared.boxed.Box.{Box}
use Rattle.graphql_spec.specs.Shown.{Text, Shown, shown_int, shown_text, shown_boolean}
use Rattle.graphql_spec.specs.Constants.{Constant, null, scalar, enumerated, variable, list, object}
use Rattle.graphql_spec.specs.Resolvers.{Error}
use Rattle.juniper_conversions.specs.Messages.{message_alone}

-- what a conversion to a scalar type says of a value that it does not take; the texts are this project's own
abbrev pub refusal_text : Text → Constant → Text
refusal_text kind null = codes "Expected GraphQL scalar, found: null"
refusal_text kind (scalar s) = codes "Expected `" ++ kind ++ codes "`, found another scalar"
refusal_text kind (enumerated e) = codes "Expected GraphQL scalar, found: enum"
refusal_text kind (variable x) = codes "Expected GraphQL scalar, found: variable"
refusal_text kind (list vs) = codes "Expected GraphQL scalar, found: list"
refusal_text kind (object ms) = codes "Expected GraphQL scalar, found: object"

-- what a scalar shows; no other value shows anything
abbrev pub scalar_of : Constant → Option Shown
scalar_of null = None
scalar_of (scalar s) = Some s
scalar_of (enumerated e) = None
scalar_of (variable x) = None
scalar_of (list vs) = None
scalar_of (object ms) = None

-- an Int, a Boolean, a String (3.5.1, 3.5.4, 3.5.3)
abbrev pub int_of : Constant → Option ℤ
int_of v = option_and_then shown_int (scalar_of v)

abbrev pub boolean_of : Constant → Option Bool
boolean_of v = option_and_then shown_boolean (scalar_of v)

abbrev pub text_of : Constant → Option Text
text_of v = option_and_then shown_text (scalar_of v)

-- a scalar type: what the value shows, or the refusal where it shows nothing of the kind
abbrev pub GivesScalar : {A B E : Type 0} → (A → B) → (E → Error) → Text → (Constant → Option B) → Constant → Result A E → Type 0
GivesScalar seen error kind shows v (Ok x) = shows v ≡ Some (seen x)
GivesScalar seen error kind shows v (Err e) = (shows v ≡ None) × (error e ≡ message_alone (refusal_text kind v))

-- a box: what the type inside gives, boxed; of an input value as of a scalar
abbrev pub GivesBox : {V A E : Type 0} → (V → Result A E → Type 0) → V → Result (Box A Global) E → Type 0
GivesBox inner v (Ok b) = inner v (Ok b.value)
GivesBox inner v (Err e) = inner v (Err e)
