-- What is against a text: counts of operations that pass a bound, and errors of reading and of rules.
use Rattle.std.proofs.Common.{◌≡◌, ◌==◌, ◌||◌, ◌-◌, ◌^◌, ℕ, Bool, List, [], ◌∷◌, length, map, nat_lt, refl, sym, ap, subst, ◌∙◌, inl, inr, false}
use Rattle.std.specs.List.{list_any}
use Rattle.graphql_spec.specs.Shown.{Text}
use Rattle.graphql_spec.specs.Documents.{Document, fragments, operations}
use Rattle.graphql_spec.specs.Requests.{Refusal}
use Rattle.graphql_spec.specs.Rules.{rule_errors}
use Rattle.graphql_spec.specs.Schema.{Schema}
use Rattle.juniper_written.specs.ExpandedFields.{expanded_fields}
use Rattle.juniper_written.specs.ExpandedLevels.{expanded_levels}
use Rattle.juniper_written.specs.declared.counts.Counts.{Counts}
use Rattle.juniper_syntax.specs.RuleView.{view_rule_error}
use Rattle.juniper_syntax.specs.declared.rule.RuleError.{RuleError as CodeError}
use Rattle.juniper.specs.Answering.{StandsFor}
use Rattle.juniper.specs.Objections.{IsRefusal, IsWithin, Objects, ObjectsToRead, has_more_fields, has_more_levels}
use Rattle.juniper.specs.RequestErrors.{RequestError, is_subscription, multiple_operations, no_mutation_type, no_operation, not_parsed, not_subscription}
use Rattle.juniper.specs.RequestErrors.{not_valid, out_of_memory, unknown_operation, variable_not_constant, view_request_error}
use Rattle.juniper.specs.declared.prepared.Bounds.{Bounds}
use Rattle.juniper.specs.declared.prepared.Objection.{Objection}
use Rattle.juniper.specs.declared.prepared.Objection.TheVariants as objection
use Rattle.juniper.proofs.Composing.{some-found}

-- ## Counts

any-map : {A : Type 0} (p : ℕ → Bool) (f : A → ℕ) (xs : List A) → list_any p (map f xs) ≡ list_any (λ x. p (f x)) xs
any-map p f [] = refl
any-map p f (x ∷ xs) = ap (λ b. p (f x) || b) (any-map p f xs)

-- a test finds one of some numbers where it finds one of equal numbers
any-same : {A B : Type 0} (p : ℕ → Bool) (f : A → ℕ) (g : B → ℕ) (xs : List A) (ys : List B) → map f xs ≡ map g ys →
    list_any (λ x. p (f x)) xs ≡ list_any (λ y. p (g y)) ys
any-same p f g xs ys e = sym (any-map p f xs) ∙ (ap (list_any p) e ∙ any-map p g ys)

-- what a test of lent counts answers is what it says of the document
module _ (most : ℕ) (counts lent : List Counts) (r : Bool) (d e : Document) (same : lent ≡ counts) (is : e ≡ d) where
  pub tells-fields : r ≡ list_any (λ c. nat_lt most c.fields) lent →
      map (λ c. c.fields) counts ≡ map (λ o. expanded_fields (2 ^ 64 - 1) (fragments e) o.selections) (operations e) → has_more_fields most d ≡ r
  unfolding has_more_fields
  tells-fields tested told = subst (λ x. has_more_fields most x ≡ r) is
      (sym (any-same (nat_lt most) (λ c. c.fields) (λ o. expanded_fields (2 ^ 64 - 1) (fragments e) o.selections) counts (operations e) told)
      ∙ (ap (list_any (λ c. nat_lt most c.fields)) (sym same) ∙ sym tested))

  pub tells-levels : r ≡ list_any (λ c. nat_lt most c.levels) lent →
      map (λ c. c.levels) counts ≡ map (λ o. expanded_levels (2 ^ 64 - 1) (fragments e) o.selections) (operations e) → has_more_levels most d ≡ r
  unfolding has_more_levels
  tells-levels tested told = subst (λ x. has_more_levels most x ≡ r) is
      (sym (any-same (nat_lt most) (λ c. c.levels) (λ o. expanded_levels (2 ^ 64 - 1) (fragments e) o.selections) counts (operations e) told)
      ∙ (ap (list_any (λ c. nat_lt most c.levels)) (sym same) ∙ sym tested))

-- ## Errors

-- an error that stands for some refusals stands for each set that has them
stands-so : (P Q : Refusal → Type 0) → ((r : Refusal) → P r → Q r) → (e : RequestError) → StandsFor P e → StandsFor Q e
stands-so P Q f out_of_memory u = tt
stands-so P Q f (not_parsed e) (r, is, p) = (r, is, f r p)
stands-so P Q f (not_valid es) (r, is, p) = (r, is, f r p)
stands-so P Q f no_operation (r, is, p) = (r, is, f r p)
stands-so P Q f multiple_operations (r, is, p) = (r, is, f r p)
stands-so P Q f unknown_operation (r, is, p) = (r, is, f r p)
stands-so P Q f is_subscription (r, is, p) = (r, is, f r p)
stands-so P Q f not_subscription (r, is, p) = (r, is, f r p)
stands-so P Q f no_mutation_type (r, is, p) = (r, is, f r p)
stands-so P Q f (variable_not_constant n) (r, is, p) = (r, is, f r p)

module _ (b : Bounds) (text : Text) (s : Schema) (disabled : Bool) where
  -- what is against reading the text is against it
  pub reading-objects : (e : Objection) → ObjectsToRead b text e → Objects b text s disabled e
  reading-objects objection.TooLong o = o
  reading-objects objection.TooManyFields o = o
  reading-objects objection.TooDeep o = o
  reading-objects (objection.Refused e) o = (o.0, stands-so _ _ (λ r p. inl p) (view_request_error e) o.1)

  -- a document within the bounds breaks rules, and these errors are listed
  pub broken-stands : (d : Document) → IsWithin b text d → (es : List CodeError) (t : Bool) → t ≡ (length es == 0) → t ≡ false →
      map view_rule_error es ≡ rule_errors s disabled d → StandsFor (IsRefusal b text s disabled) (not_valid (map view_rule_error es))
  broken-stands d within es t tested e seen =
      some-found es t tested (rule_errors s disabled d) seen e (IsRefusal b text s disabled) (λ x xs found. inr (d, within, (x, xs, refl, found)))
