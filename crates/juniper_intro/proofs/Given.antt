-- What scalars say as arguments.
use Rattle.std.proofs.Common.{◌≡◌, Some, false, unwrap_or, refl}
use Rattle.graphql_spec.specs.Constants.{scalar}
use Rattle.graphql_spec.specs.Introspection.{given_text, is_yes}
use Rattle.graphql_spec.specs.Shown.{Shown, int, text, boolean, shown_boolean, shown_text}

pub given-shown : (x : Shown) → given_text (Some (scalar x)) ≡ shown_text x
unfolding given_text shown_text
given-shown (int i) = refl
given-shown (text t) = refl
given-shown (boolean b) = refl

pub yes-shown : (x : Shown) → is_yes (Some (scalar x)) ≡ unwrap_or (shown_boolean x) false
unfolding is_yes shown_boolean
yes-shown (int i) = refl
yes-shown (text t) = refl
yes-shown (boolean b) = refl
