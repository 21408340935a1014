-- Defaults other than null.
use Rattle.std.proofs.Common.{◌≡◌, Bool, true, false, not, Some, refl}
use Rattle.graphql_spec.specs.Positions.{Spanned}
use Rattle.graphql_spec.specs.Inputs.{Input, null, scalar, enumerated, variable, list, object}
use Rattle.graphql_spec.specs.Constants.{is_null, meaning}
use Rattle.graphql_spec.specs.VariableUses.{has_real_default}

by_cases : (v : Input) → not (is_null (meaning v)) ≡ elim v as (λ x. Bool) [ null ↦ false | _ ↦ true ]
unfolding meaning
by_cases null = refl
by_cases (scalar x) = refl
by_cases (enumerated e) = refl
by_cases (variable x) = refl
by_cases (list is) = refl
by_cases (object fs) = refl

-- a default is one that is not null
pub real-default-is : (v : Spanned Input) → not (is_null (meaning v.item)) ≡ has_real_default (Some v)
unfolding has_real_default
real-default-is v = by_cases v.item
