-- What is made of a nullable value comes back, by what conversions answer.
use Rattle.std.proofs.Common.{◌≡◌, Option, Some, None, Result, Ok, Err, refl}
use Rattle.std.specs.Prelude.{◌≢◌, IsOkAnd, IsSomeAnd}
use Rattle.graphql_spec.specs.Constants.{Constant, null}
use Rattle.juniper_conversions.specs.Options.{GivesOption}
use Rattle.juniper_conversions.specs.RoundTrips.{ComesBack, ComesBackAs}

module _ {A E : Type 0} (inner : Constant → Result A E → Type 0) where
  pub none_back : (answer : Result (Option A) E) → GivesOption inner null answer → answer ≡ Ok None
  none_back (Ok None) h = refl
  none_back (Ok (Some x)) h = absurd (h.0 refl)
  none_back (Err e) h = absurd (h.0 refl)

  pub some_back : (input : A → Constant) (x : A) → input x ≢ null → ComesBack inner input x → (answer : Result (Option A) E) →
      GivesOption inner (input x) answer → IsOkAnd answer (λ back. IsSomeAnd back (ComesBackAs inner input x))
  some_back input x written there (Ok None) h = absurd (written h)
  some_back input x written there (Ok (Some y)) h = h.1
  some_back input x written there (Err e) h = absurd (there e h.1)
