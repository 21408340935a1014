-- What an input value means, by its variants.
use Rattle.std.proofs.Common.{◌≡◌, Vec, String, Global, string_bytes, ap}
use Rattle.graphql_spec.specs.Shown.{Shown}
use Rattle.graphql_spec.specs.Constants.{meaning, meanings, members, null, scalar, enumerated, variable, list, object}
use Rattle.juniper_syntax.specs.InputView.{view_input, view_items, view_fields}
use Rattle.juniper_syntax.specs.declared.position.Span.{Span}
use Rattle.juniper_syntax.specs.declared.position.Spanning.{Spanning}
use Rattle.juniper_syntax.specs.declared.input.InputValue.{InputValue, Null, Scalar, Enum, Variable, List as ListOf, Object}
use Rattle.juniper_syntax.proofs.Inputs.{view-Null, view-Scalar, view-Enum, view-Variable, view-List, view-Object}

module _ {S : Type 0} (shown : S → Shown) where
  pub means-Null : meaning (view_input shown Null) ≡ null
  unfolding meaning
  means-Null = ap meaning (view-Null shown)

  pub means-Scalar : (s : S) → meaning (view_input shown (Scalar s)) ≡ scalar (shown s)
  unfolding meaning
  means-Scalar s = ap meaning (view-Scalar shown s)

  pub means-Enum : (e : String Global) → meaning (view_input shown (Enum e)) ≡ enumerated (string_bytes e)
  unfolding meaning
  means-Enum e = ap meaning (view-Enum shown e)

  pub means-Variable : (x : String Global) → meaning (view_input shown (Variable x)) ≡ variable (string_bytes x)
  unfolding meaning
  means-Variable x = ap meaning (view-Variable shown x)

  pub means-List : (v : Vec (Spanning (InputValue S) Span) Global) → meaning (view_input shown (ListOf v)) ≡ list (meanings (view_items shown v.items))
  unfolding meaning
  means-List v = ap meaning (view-List shown v)

  pub means-Object : (v : Vec (Spanning (String Global) Span × Spanning (InputValue S) Span) Global) →
      meaning (view_input shown (Object v)) ≡ object (members (view_fields shown v.items))
  unfolding meaning
  means-Object v = ap meaning (view-Object shown v)

-- what an input value means, by its variants
pub ruleset input_meanings = (means-Null, means-Scalar, means-Enum, means-Variable, means-List, means-Object)
