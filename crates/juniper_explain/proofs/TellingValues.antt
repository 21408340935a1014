-- Errors of given values and their explanations are made of the same reasons.
use Rattle.std.proofs.Common.{◌≡◌, Bool, true, false, not, cond, List, [], ◌∷◌, ◌++◌, Option, Some, None, String, Global, map, string_bytes, refl, sym, ap, ap₂}
use Rattle.std.proofs.Common.{◌∙◌}
use Rattle.std.specs.List.{flat_map}
use Rattle.graphql_spec.specs.Shown.{Shown, Text}
use Rattle.graphql_spec.specs.Positions.{Position}
use Rattle.graphql_spec.specs.Documents.{VariableDefinition, variables_of}
use Rattle.graphql_spec.specs.Inputs.{Input, Variables}
use Rattle.graphql_spec.specs.Requests.{default_fits, item_of, no_fitting_value, variable_errors, variable_fits}
use Rattle.graphql_spec.specs.Rules.{RuleError}
use Rattle.graphql_spec.specs.Schema.{Schema}
use Rattle.juniper_syntax.specs.declared.position.Span.{Span}
use Rattle.juniper_syntax.specs.declared.position.Spanning.{Spanning}
use Rattle.juniper_syntax.specs.DocumentView.{view_operation}
use Rattle.juniper_syntax.specs.declared.ast.Operation.{Operation}
use Rattle.juniper_syntax.specs.declared.ast.VariableDefinitions.{VariableDefinitions}
use Rattle.juniper_written.specs.WrittenView.{view_variables}
use Rattle.juniper_explain.specs.Explanations.{has_any}
use Rattle.juniper_explain.specs.GivenValues.{VariableExplanation, absent_reasons, error_for, told_at, variable_explanations, variable_reasons}
use Rattle.juniper_explain.proofs.Joined.{any-same, has-flat}
use Rattle.juniper_explain.proofs.Judging.{none-has}
use Rattle.juniper_explain.proofs.Reasoning.{has-text, has-value}

-- a variable has reasons exactly where it has no fitting value
has-variable : (s : Schema) (v : VariableDefinition) (o : Option Input) → has_any (variable_reasons s v o) ≡ not (variable_fits s v o)
unfolding variable_reasons variable_fits absent_reasons
has-variable s v None = has-text (default_fits s v.of_type.item (item_of v.default)) _
has-variable s v (Some x) = has-value s x v.of_type.item _

error-one : (v : VariableDefinition) (xs : List Text) →
    error_for v xs ≡ cond (has_any xs) (record { message = no_fitting_value v.name.item; start = v.name.span.start } ∷ []) []
unfolding error_for has_any
error-one v [] = refl
error-one v (x ∷ xs) = refl

put-first : (e : RuleError) (b : Bool) (rest : List RuleError) → cond b rest (e ∷ rest) ≡ cond (not b) (e ∷ []) [] ++ rest
put-first e true rest = refl
put-first e false rest = refl

-- a text as an explanation at a place
abbrev pub told_text : Position → Text → VariableExplanation
told_text p x = record { place = p; text = x }

abbrev pub told_message : Position → String Global → VariableExplanation
told_message p m = told_text p (string_bytes m)

-- what is explained of a variable
abbrev pub explanations_of : Schema → Variables → VariableDefinition → List VariableExplanation
explanations_of s given v = map (told_at v) (variable_reasons s v (given v.name.item))

-- the variables of an operation
pub variables-seen : {S : Type 0} (shown : S → Shown) (o : Spanning (Operation S) Span) (d : Option (Spanning (VariableDefinitions S) Span)) →
    o.item.variable_definitions ≡ d → view_variables shown d ≡ variables_of (view_operation shown o)
unfolding variables_of
variables-seen shown o None is = rw (is) refl
variables-seen shown o (Some v) is = rw (is) refl

module _ (s : Schema) (given : Variables) where
  abbrev reasons_of : VariableDefinition → List Text
  reasons_of v = variable_reasons s v (given v.name.item)

  -- the error that is listed of each variable
  pub values-told : (vs : List VariableDefinition) → variable_errors s vs given ≡ flat_map (λ v. error_for v (reasons_of v)) vs
  unfolding variable_errors
  values-told [] = refl
  values-told (v ∷ vs) =
      let e : RuleError = record { message = no_fitting_value v.name.item; start = v.name.span.start } in
      put-first e (variable_fits s v (given v.name.item)) (variable_errors s vs given)
      ∙ ap₂ (λ a b. a ++ b) (ap (λ b. cond b (e ∷ []) []) (sym (has-variable s v (given v.name.item))) ∙ sym (error-one v (reasons_of v))) (values-told vs)

  error-has : (v : VariableDefinition) (xs : List Text) → has_any (error_for v xs) ≡ has_any xs
  unfolding error_for has_any
  error-has v [] = refl
  error-has v (x ∷ xs) = refl

  told-has : (v : VariableDefinition) (xs : List Text) → has_any (map (told_at v) xs) ≡ has_any xs
  unfolding has_any
  told-has v [] = refl
  told-has v (x ∷ xs) = refl

  -- there is an explanation exactly where an error is listed
  same-has : (vs : List VariableDefinition) → has_any (variable_errors s vs given) ≡ has_any (variable_explanations s vs given)
  unfolding variable_explanations
  same-has vs =
      ap has_any (values-told vs) ∙ (has-flat (λ v. error_for v (reasons_of v)) vs
      ∙ (any-same _ _ (λ v. error-has v (reasons_of v) ∙ sym (told-has v (reasons_of v))) vs
      ∙ sym (has-flat (λ v. map (told_at v) (reasons_of v)) vs)))

  pub no-values-explained : (vs : List VariableDefinition) → variable_errors s vs given ≡ [] → variable_explanations s vs given ≡ []
  unfolding has_any
  no-values-explained vs none = none-has _ (sym (same-has vs) ∙ ap has_any none)

  pub no-values-listed : (vs : List VariableDefinition) → variable_explanations s vs given ≡ [] → variable_errors s vs given ≡ []
  unfolding has_any
  no-values-listed vs none = none-has _ (same-has vs ∙ ap has_any none)
