-- Definitions without variables, in documents without fragments that have variables: they break none of the rules on variables.
use Rattle.std.proofs.Common.{◌≡◌, ◌||◌, false, not, is_some, [], ◌∷◌, Option, refl, sym, ap, ◌∙◌, inl, inr}
use Rattle.std.specs.List.{flat_map}
use Rattle.std.proofs.lemmas.Bool.{cases_Bool}
use Rattle.graphql_spec.specs.Shown.{Name}
use Rattle.graphql_spec.specs.Documents.{Document, Definition, Operation, VariableDefinition, operation, fragment, variables_of}
use Rattle.graphql_spec.specs.Fragments.{spreads}
use Rattle.graphql_spec.specs.Placed.{calls}
use Rattle.graphql_spec.specs.Rules.{has_root, uses_undefined, misuses_variable}
use Rattle.graphql_spec.specs.Schema.{Schema}
use Rattle.graphql_spec.specs.VariableUses.{definition_of, names_used, uses_in_call}
use Rattle.juniper_type_rules.specs.UsesView.{AreUsesOfFragments, allowed_by, has_variables, usage_of, uses_reached}
use Rattle.juniper_type_rules.specs.UsesView.{view_all_numbered}
use Rattle.juniper_type_rules.specs.declared.reach.UsesOfFragments.{UsesOfFragments}
use Rattle.juniper_type_rules.proofs.Marked.{none-reached}
use Rattle.juniper_type_rules.proofs.Ruling.{fragment-misused, fragment-undefined, misused-is, rootless-misused, rootless-undefined, undefined-is, unused}
use Rattle.juniper_type_rules.proofs.Tests.{none-pass}

module _ (s : Schema) (d : Document) (r : UsesOfFragments) (are : AreUsesOfFragments s r d) (none : view_all_numbered r.numbered.items ≡ []) where
  module _ (o : Operation) (idle : has_variables (usage_of s (operation o)) ≡ false) where
    abbrev at : Name → Option VariableDefinition
    at = definition_of (variables_of o)

    alone : usage_of s (operation o) ∷ [] ≡ usage_of s (operation o) ∷ uses_reached s d (spreads o.selections)
    alone = ap (λ us. usage_of s (operation o) ∷ us) (none-reached s d r are (spreads o.selections) none)

    operation-undefined : uses_undefined s d (operation o) ≡ false
    unfolding usage_of
    operation-undefined = elim (cases_Bool (has_root s o)) [
      | inl root ↦ sym (undefined-is s d (operation o) o refl _ at root alone (λ n. refl))
          ∙ ap (λ b. b || false) (none-pass (names_used (operation o)) (λ n. not (is_some (at n))) (unused s (operation o) idle).0)
      | inr root ↦ sym (rootless-undefined s d (operation o) o refl root)
    ]

    operation-misused : misuses_variable s d (operation o) ≡ false
    unfolding usage_of
    operation-misused = elim (cases_Bool (has_root s o)) [
      | inl root ↦ sym (misused-is s d (operation o) o refl _ at root alone (λ n. refl))
          ∙ ap (λ b. b || false)
          (none-pass (flat_map (uses_in_call s) (calls s (operation o))) (λ v. not (allowed_by at v)) (unused s (operation o) idle).1)
      | inr root ↦ sym (rootless-misused s d (operation o) o refl root)
    ]

  pub unused-breaks-none : (x : Definition) → has_variables (usage_of s x) ≡ false → (uses_undefined s d x ≡ false) × (misuses_variable s d x ≡ false)
  unused-breaks-none (operation o) idle = (operation-undefined o idle, operation-misused o idle)
  unused-breaks-none (fragment f) idle = (sym (fragment-undefined s d (fragment f) f refl), sym (fragment-misused s d (fragment f) f refl))
