-- The variables without a fitting value: the errors that are listed, and then those of the variables that are left.
use Rattle.std.proofs.Common.{◌≡◌, ℕ, ◌+◌, ◌<◌, ◌≤◌, List, [], ◌∷◌, ◌++◌, length, get_or, drop, map, refl, sym, ap, append-nil, append_assoc, ◌∙◌, cond, false}
use Rattle.std.proofs.Common.{Some, None}
use Rattle.std.proofs.lemmas.List.{drop_all}
use Rattle.graphql_spec.specs.Documents.{VariableDefinition, variables_of}
use Rattle.graphql_spec.specs.Inputs.{Variables}
use Rattle.graphql_spec.specs.Requests.{no_fitting_value, variable_errors, variable_fits}
use Rattle.graphql_spec.specs.Rules.{RuleError}
use Rattle.graphql_spec.specs.Schema.{Schema}
use Rattle.graphql_spec.specs.Shown.{Shown}
use Rattle.juniper_syntax.specs.declared.position.Span.{Span}
use Rattle.juniper_syntax.specs.declared.position.Spanning.{Spanning}
use Rattle.juniper_syntax.specs.DocumentView.{view_operation, view_variable}
use Rattle.juniper_syntax.specs.declared.ast.Operation.{Operation}
use Rattle.juniper_syntax.specs.declared.ast.VariableDefinitions.{VariableDefinitions}
use Rattle.juniper_syntax.proofs.Lists.{left-is}

module _ {A : Type 0} (view : A → VariableDefinition) (s : Schema) (given : Variables) (xs : List A) where
  -- the errors so far, of the variables before this place
  abbrev pub IsListedBefore : ℕ → List RuleError → Type 0
  IsListedBefore i es = es ++ variable_errors s (map view (drop i xs)) given ≡ variable_errors s (map view xs) given

  pub listed-first : (es : List RuleError) → es ≡ [] → IsListedBefore 0 es
  listed-first es none = rw (none) refl

  pub listed-next : (i : ℕ) (x : A) → i < length xs → x ≡ get_or xs i x → (es fs : List RuleError)
      → fs ++ variable_errors s (map view (drop (i + 1) xs)) given ≡ es ++ variable_errors s (view x ∷ map view (drop (i + 1) xs)) given → IsListedBefore i es →
      IsListedBefore (i + 1) fs
  listed-next i x below is es fs more so_far = more ∙ (ap (λ l. es ++ variable_errors s (map view l) given) (sym (left-is xs i x below is)) ∙ so_far)

  pub listed-all : (i : ℕ) → length xs ≤ i → (es : List RuleError) → IsListedBefore i es → es ≡ variable_errors s (map view xs) given
  unfolding variable_errors
  listed-all i past es so_far = sym (append-nil es) ∙ (ap (λ l. es ++ variable_errors s (map view l) given) (sym (drop_all i xs past)) ∙ so_far)

-- a variable without a fitting value is listed, and then what follows it
pub misfit-listed : (s : Schema) (given : Variables) (v : VariableDefinition) (old new : List RuleError) (e : RuleError) →
    variable_fits s v (given v.name.item) ≡ false → e ≡ record { message = no_fitting_value v.name.item; start = v.name.span.start }
    → new ≡ old ++ e ∷ [] → (rest : List VariableDefinition) → new ++ variable_errors s rest given ≡ old ++ variable_errors s (v ∷ rest) given
unfolding variable_errors
misfit-listed s given v old new e misfits is added rest =
    let rest_errors : List RuleError = variable_errors s rest given in
    ap (λ l. l ++ rest_errors) added ∙ (append_assoc old (e ∷ []) rest_errors ∙ ap (λ l. old ++ l) (ap (λ x. x ∷ rest_errors) is
    ∙ sym (ap (λ b. cond b rest_errors (record { message = no_fitting_value v.name.item; start = v.name.span.start } ∷ rest_errors)) misfits)))

module _ {S : Type 0} (shown : S → Shown) (o : Spanning (Operation S) Span) where
  -- the variables of an operation that defines some
  pub variables-some : (v : Spanning (VariableDefinitions S) Span) → o.item.variable_definitions ≡ Some v →
      map (view_variable shown) v.item.items.items ≡ variables_of (view_operation shown o)
  unfolding variables_of
  variables-some v is = rw is refl

  -- and of one that defines none
  pub variables-none : o.item.variable_definitions ≡ None → [] ≡ variables_of (view_operation shown o)
  unfolding variables_of
  variables-none is = rw is refl
