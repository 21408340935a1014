-- What comes back from the input value that a value is written as (3.12).
use Rattle.std.specs.Prelude.{List, Result, Ok, Err, IsOkAnd}
use Rattle.std.specs.List.{AllZip}
use Rattle.graphql_spec.specs.Constants.{Constant}

-- y is an answer for what is written of x
abbrev pub ComesBackAs : {A E : Type 0} → (Constant → Result A E → Type 0) → (A → Constant) → A → A → Type 0
ComesBackAs gives input x y = gives (input x) (Ok y)

-- some value is
abbrev pub BringsBack : {A E : Type 0} → (Constant → Result A E → Type 0) → (A → Constant) → A → Type 0
BringsBack {A = A} gives input x = (y : A) × ComesBackAs gives input x y

-- no error is
abbrev pub ComesBack : {A E : Type 0} → (Constant → Result A E → Type 0) → (A → Constant) → A → Type 0
ComesBack {E = E} gives input x = (e : E) → gives (input x) (Err e) → ⊥

-- every answer for what is written of x is a value of this kind
abbrev pub AlwaysBrings : {A E : Type 0} → (Constant → Result A E → Type 0) → (A → Constant) → A → (A → Type 0) → Type 0
AlwaysBrings {A = A} {E = E} gives input x Kind = (answer : Result A E) → gives (input x) answer → IsOkAnd answer Kind

-- each item beside an answer for what is written of it
abbrev pub EachComesBackAs : {A E : Type 0} → (Constant → Result A E → Type 0) → (A → Constant) → List A → List A → Type 0
EachComesBackAs gives input = AllZip (ComesBackAs gives input)
