-- An input value beside what it stands for, level by level.
use Rattle.std.proofs.Common.{◌≡◌, Vec, String, Global, string_bytes, rules}
use Rattle.graphql_spec.specs.Shown.{Shown}
use Rattle.graphql_spec.specs.Inputs as spec
use Rattle.juniper_syntax.specs.InputView.{view_input, view_items, view_fields}
use Rattle.juniper_syntax.specs.declared.position.Span.{Span}
use Rattle.juniper_syntax.specs.declared.position.Spanning.{Spanning}
use Rattle.juniper_syntax.specs.declared.input.InputValue.{InputValue, Null, Scalar, Enum, Variable, List as ListOf, Object, the_lemmas}

module _ {S : Type 0} (shown : S → Shown) where
  pub view-Null : view_input shown Null ≡ spec.null
  view-Null = search (rules, the_lemmas)

  pub view-Scalar : (s : S) → view_input shown (Scalar s) ≡ spec.scalar (shown s)
  view-Scalar s = search (rules, the_lemmas)

  pub view-Enum : (e : String Global) → view_input shown (Enum e) ≡ spec.enumerated (string_bytes e)
  view-Enum e = search (rules, the_lemmas)

  pub view-Variable : (x : String Global) → view_input shown (Variable x) ≡ spec.variable (string_bytes x)
  view-Variable x = search (rules, the_lemmas)

  pub view-List : (v : Vec (Spanning (InputValue S) Span) Global) → view_input shown (ListOf v) ≡ spec.list (view_items shown v.items)
  view-List v = search (rules, the_lemmas)

  pub view-Object : (v : Vec (Spanning (String Global) Span × Spanning (InputValue S) Span) Global) →
      view_input shown (Object v) ≡ spec.object (view_fields shown v.items)
  view-Object v = search (rules, the_lemmas)

-- the views of an input value, level by level
pub ruleset input_views = (view-Null, view-Scalar, view-Enum, view-Variable, view-List, view-Object)
