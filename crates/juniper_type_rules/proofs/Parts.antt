-- What an operation has in itself and in the fragments that it reaches, definition by definition.
use Rattle.std.proofs.Common.{◌≡◌, Bool, false, ◌||◌, filter, List, [], ◌∷◌, map, Option, refl, sym, ap, ap₂, ◌∙◌, inl, inr}
use Rattle.std.specs.List.{list_any, flat_map}
use Rattle.std.proofs.lemmas.Bool.{cases_Bool}
use Rattle.std.proofs.lemmas.List.Folds.{list_any-append}
use Rattle.graphql_spec.specs.Shown.{Name}
use Rattle.graphql_spec.specs.Documents.{Document, Definition, Operation, operation, fragments}
use Rattle.graphql_spec.specs.Fragments.{spreads}
use Rattle.graphql_spec.specs.Schema.{Schema}
use Rattle.graphql_spec.specs.VariableUses.{Use, as_definitions, is_reached, reached, parts}
use Rattle.juniper_type_rules.specs.UsesView.{Usage, usage_of, has_variables, uses_reached}

module _ {B : Type 0} (F : Definition → List B) (test : B → Bool) (s : Schema) (passes : Usage → Bool)
    (is : (x : Definition) → passes (usage_of s x) ≡ list_any test (F x))
    (none : (x : Definition) → has_variables (usage_of s x) ≡ false → passes (usage_of s x) ≡ false) where
  -- one passes in what definitions use, where one passes in what they have
  any-used : (xs : List Definition) → list_any passes (map (usage_of s) xs) ≡ list_any test (flat_map F xs)
  any-used [] = refl
  any-used (x ∷ xs) = ap₂ (λ a b. a || b) (is x) (any-used xs) ∙ sym (list_any-append test (F x) (flat_map F xs))

  -- none passes where there are no variables
  any-left : (xs : List Definition) → list_any passes (filter has_variables (map (usage_of s) xs)) ≡ list_any passes (map (usage_of s) xs)
  any-left [] = refl
  any-left (x ∷ xs) = elim (cases_Bool (has_variables (usage_of s x))) [
    | inl q ↦ rw q (ap (λ b. passes (usage_of s x) || b) (any-left xs))
    | inr q ↦ rw q (any-left xs ∙ sym (ap (λ b. b || list_any passes (map (usage_of s) xs)) (none x q)))
  ]

  -- one passes in the operation, or in a fragment that it reaches
  pub any-part : (d : Document) (o : Operation) (us : List Usage) → us ≡ usage_of s (operation o) ∷ uses_reached s d (spreads o.selections) →
      list_any passes us ≡ list_any test (flat_map F (parts d o))
  unfolding parts reached uses_reached
  any-part d o us at_us =
      let xs = as_definitions (filter (λ f. is_reached (fragments d) (spreads o.selections) f.name.item) (fragments d)) in
      ap (list_any passes) at_us ∙ (ap₂ (λ a b. a || b) (is (operation o)) (any-left xs ∙ any-used xs)
      ∙ sym (list_any-append test (F (operation o)) (flat_map F xs)))

-- usages of the same parts
abbrev made : Option Name → ((Name → Bool) → Bool) → ((Use → Bool) → Bool) → Usage
made f ns us = record { fragment = f; names = ns; uses = us }

pub same-usage : (f f' : Option Name) (ns ns' : (Name → Bool) → Bool) (us us' : (Use → Bool) → Bool) → f ≡ f' → ((test : _) → ns test ≡ ns' test) →
    ((test : _) → us test ≡ us' test) → made f ns us ≡ made f' ns' us'
same-usage f f' ns ns' us us' p q r =
    let q' : ns ≡ ns' = λ i test. q test i in
    let r' : us ≡ us' = λ i test. r test i in
    ap (λ x. made x ns us) p ∙ (ap (λ x. made f' x us) q' ∙ ap (λ x. made f' ns' x) r')
