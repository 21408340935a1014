-- What is made of a value comes back, by what conversions answer.
use Rattle.std.proofs.Common.{◌≡◌, ℤ, Bool, true, String, Global, string_bytes, Option, Some, None, Result, Ok, Err, refl}
use Rattle.std.specs.Prelude.{◌≢◌, MatchResult}
use Rattle.graphql_spec.specs.Shown.{Text, int, boolean, text, shown_int, shown_boolean, shown_text}
use Rattle.graphql_spec.specs.Constants.{Constant, null, scalar}
use Rattle.graphql_spec.specs.Resolvers.{Error}
use Rattle.juniper_conversions.specs.Conversions.{GivesScalar, int_of, boolean_of, text_of}

module _ {E : Type 0} (error : E → Error) (kind : Text) where
  pub int_back : (n : ℤ) (answer : Result ℤ E) → GivesScalar (λ m. m) error kind int_of (scalar (int n)) answer → answer ≡ Ok n
  unfolding shown_int
  int_back n (Ok m) e = cc
  int_back n (Err e) h = let none = h.0 in cc

  pub boolean_back : (b : Bool) (answer : Result Bool E) → GivesScalar (λ c. c) error kind boolean_of (scalar (boolean b)) answer → answer ≡ Ok b
  unfolding shown_boolean
  boolean_back b (Ok c) e = cc
  boolean_back b (Err e) h = let none = h.0 in cc

  pub text_back : (t : Text) (answer : Result (String Global) E) → GivesScalar string_bytes error kind text_of (scalar (text t)) answer
      → MatchResult answer (λ s. string_bytes s ≡ t) (λ e. ⊥)
  unfolding shown_text
  text_back t (Ok s) e = cc
  text_back t (Err e) h = let none = h.0 in cc
