-- What is written of a box or a nullable comes back, by what their conversions answer.
use Rattle.std.proofs.Common.{◌≡◌, Result, Ok, Err, Global, refl}
use Rattle.std.specs.Prelude.{◌≢◌, IsOkAnd, IsSomeAnd}
use Rattle.std.specs.declared.boxed.Box.{Box}
use Rattle.graphql_spec.specs.Constants.{Constant, null}
use Rattle.juniper_conversions.specs.Nullable.{some}
use Rattle.juniper_conversions.specs.declared.nullable.Nullable.{Nullable}
use Rattle.juniper_conversions.specs.declared.nullable.Nullable.TheVariants as nullable
use Rattle.juniper_conversions.specs.RoundTrips.{ComesBack, ComesBackAs}
use Rattle.juniper_conversions.specs.Conversions.{GivesBox}
use Rattle.juniper_conversions.specs.WrappedConversions.{GivesNullable}

module _ {A E : Type 0} (gives : Constant → Result A E → Type 0) where
  pub box_back : (input : A → Constant) (x : A) → ComesBack gives input x → (answer : Result (Box A Global) E) → GivesBox gives (input x) answer
      → IsOkAnd answer (λ back. ComesBackAs gives input x back.value)
  box_back input x there (Ok back) h = h
  box_back input x there (Err e) h = absurd (there e h)

  pub nullable_back : (input : A → Constant) (x : A) → input x ≢ null → ComesBack gives input x → (answer : Result (Nullable A) E) →
      GivesNullable gives (input x) answer
      → IsOkAnd answer (λ back. IsSomeAnd (some back) (ComesBackAs gives input x))
  nullable_back input x written there (Ok nullable.ImplicitNull) h = elim h [ ]
  nullable_back input x written there (Ok nullable.ExplicitNull) h = absurd (written h)
  nullable_back input x written there (Ok (nullable.Some y)) h = h.1
  nullable_back input x written there (Err e) h = absurd (there e h.1)

  pub null_back : (answer : Result (Nullable A) E) → GivesNullable gives null answer → answer ≡ Ok nullable.ExplicitNull
  null_back (Ok nullable.ImplicitNull) h = elim h [ ]
  null_back (Ok nullable.ExplicitNull) h = refl
  null_back (Ok (nullable.Some y)) h = absurd (h.0 refl)
  null_back (Err e) h = absurd (h.0 refl)
