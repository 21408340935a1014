-- The shape of a constant, as it is tested: null, a list, or neither.
use Rattle.std.proofs.Common.{◌≡◌, List, [], ◌∷◌, Some, None, true, false, map, Vec, Global, refl, ap, subst, ◌∙◌}
use Rattle.std.proofs.lemmas.Bool.{both_ways}
use Rattle.graphql_spec.specs.Shown.{Shown}
use Rattle.graphql_spec.specs.Constants.{Constant, null, scalar, enumerated, variable, list, object, constant, is_null, meaning, meanings}
use Rattle.juniper_syntax.specs.InputView.{view_input, view_items}
use Rattle.juniper_syntax.specs.declared.position.Span.{Span}
use Rattle.juniper_syntax.specs.declared.position.Spanning.{Spanning}
use Rattle.juniper_syntax.specs.declared.input.InputValue.{InputValue, List as ListOf}
use Rattle.juniper_conversions.proofs.Meanings.{means-List}
use Rattle.juniper_conversions.specs.ListConversions.{items_of, constants_of, list_of, ByShape}

-- ## The three cases

module _ (N O : Type 0) (L : List Constant → Type 0) where
  pub by_null : (v : Constant) → is_null v ≡ true → N → ByShape v N L O
  by_null null e p = p
  by_null (scalar s) e p = absurd (both_ways false refl e)
  by_null (enumerated s) e p = absurd (both_ways false refl e)
  by_null (variable s) e p = absurd (both_ways false refl e)
  by_null (list s) e p = absurd (both_ways false refl e)
  by_null (object s) e p = absurd (both_ways false refl e)

  pub by_list : (v : Constant) (vs : List Constant) → Some vs ≡ list_of v → L vs → ByShape v N L O
  by_list null vs e p = cc
  by_list (scalar s) vs e p = cc
  by_list (enumerated s) vs e p = cc
  by_list (variable s) vs e p = cc
  by_list (list s) vs e p = let same : vs ≡ items_of s = cc in subst L same p
  by_list (object s) vs e p = cc

  pub by_other : (v : Constant) → is_null v ≡ false → None ≡ list_of v → O → ByShape v N L O
  by_other null e f p = absurd (both_ways true e refl)
  by_other (scalar s) e f p = p
  by_other (enumerated s) e f p = p
  by_other (variable s) e f p = p
  by_other (list s) e f p = cc
  by_other (object s) e f p = p

-- ## Items

pub items_of-constants_of : (vs : List Constant) → items_of (constants_of vs) ≡ vs
items_of-constants_of [] = refl
items_of-constants_of (v ∷ vs) = ap (λ ws. v ∷ ws) (items_of-constants_of vs)

module _ {S : Type 0} (shown : S → Shown) where
  pub meanings-constants : (xs : List (Spanning (InputValue S) Span)) →
      meanings (view_items shown xs) ≡ constants_of (map (λ x. meaning (view_input shown x.item)) xs)
  unfolding meaning
  meanings-constants [] = refl
  meanings-constants (x ∷ xs) = ap (constant (meaning (view_input shown x.item))) (meanings-constants xs)

  pub list_of-List : (v : Vec (Spanning (InputValue S) Span) Global) →
      list_of (meaning (view_input shown (ListOf v))) ≡ Some (map (λ x. meaning (view_input shown x.item)) v.items)
  list_of-List v = ap list_of (means-List shown v) ∙ ap Some (ap items_of (meanings-constants v.items) ∙ items_of-constants_of _)
