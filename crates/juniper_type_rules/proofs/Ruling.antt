-- The rules on the uses of variables, by what each definition uses.
use Rattle.std.proofs.Common.{◌≡◌, true, false, not, ◌&&◌, ◌∷◌, List, Option, is_some, refl, sym, ap, ◌∙◌}
use Rattle.std.specs.List.{list_any, flat_map}
use Rattle.graphql_spec.specs.Shown.{Name}
use Rattle.graphql_spec.specs.Documents.{Document, Definition, Operation, VariableDefinition, operation, fragment, variables_of}
use Rattle.graphql_spec.specs.Fragments.{spreads}
use Rattle.graphql_spec.specs.Placed.{calls}
use Rattle.graphql_spec.specs.Rules.{has_root, uses_undefined, misuses_variable}
use Rattle.graphql_spec.specs.Schema.{Schema}
use Rattle.graphql_spec.specs.VariableUses.{parts, names_used, definition_of, all_defined, uses_in_call, uses, allowed, all_allowed}
use Rattle.juniper_type_rules.specs.UsesView.{Usage, has_variables, usage_of, uses_reached, uses_unknown, uses_misused, allowed_by}
use Rattle.juniper_type_rules.proofs.Parts.{any-part}
use Rattle.juniper_type_rules.proofs.Tests.{neither-passes, none-pass, one-fails}

-- a definition without variables uses none
pub unused : (s : Schema) (x : Definition) → has_variables (usage_of s x) ≡ false →
    (list_any (λ n. true) (names_used x) ≡ false) × (list_any (λ u. true) (flat_map (uses_in_call s) (calls s x)) ≡ false)
unfolding usage_of
unused s x e = neither-passes _ _ e

module _ (s : Schema) (d : Document) (x : Definition) (o : Operation) (is : x ≡ operation o) where
  -- an operation without root type breaks none of the rules
  pub rootless-undefined : has_root s o ≡ false → false ≡ uses_undefined s d x
  unfolding uses_undefined
  rootless-undefined none = sym (ap (λ b. b && not (all_defined d o)) none) ∙ ap (uses_undefined s d) (sym is)

  pub rootless-misused : has_root s o ≡ false → false ≡ misuses_variable s d x
  unfolding misuses_variable
  rootless-misused none = sym (ap (λ b. b && not (all_allowed s d o)) none) ∙ ap (misuses_variable s d) (sym is)

  module _ (us : List Usage) (at : Name → Option VariableDefinition) (root : has_root s o ≡ true)
      (at_us : us ≡ usage_of s x ∷ uses_reached s d (spreads o.selections)) (at_name : (n : Name) → at n ≡ definition_of (variables_of o) n) where
    pub undefined-is : list_any (uses_unknown at) us ≡ uses_undefined s d x
    unfolding uses_undefined all_defined usage_of
    undefined-is =
        let same : at ≡ definition_of (variables_of o) = λ i n. at_name n i in
        any-part names_used (λ n. not (is_some (at n))) s (uses_unknown at) (λ y. refl)
        (λ y e. none-pass (names_used y) (λ n. not (is_some (at n))) (unused s y e).0) d o us
        (at_us ∙ ap (λ y. usage_of s y ∷ uses_reached s d (spreads o.selections)) is)
        ∙ (ap (λ f. list_any (λ n. not (is_some (f n))) (flat_map names_used (parts d o))) same
        ∙ (sym (one-fails (λ n. is_some (definition_of (variables_of o) n)) (flat_map names_used (parts d o)))
        ∙ (sym (ap (λ b. b && not (all_defined d o)) root) ∙ ap (uses_undefined s d) (sym is))))

    pub misused-is : list_any (uses_misused at) us ≡ misuses_variable s d x
    unfolding misuses_variable all_allowed uses allowed allowed_by usage_of
    misused-is =
        let same : at ≡ definition_of (variables_of o) = λ i n. at_name n i in
        any-part (λ y. flat_map (uses_in_call s) (calls s y)) (λ v. not (allowed_by at v)) s (uses_misused at) (λ y. refl)
        (λ y e. none-pass (flat_map (uses_in_call s) (calls s y)) (λ v. not (allowed_by at v)) (unused s y e).1) d o us
        (at_us ∙ ap (λ y. usage_of s y ∷ uses_reached s d (spreads o.selections)) is)
        ∙ (ap (λ f. list_any (λ v. not (allowed_by f v)) (uses s d o)) same
        ∙ (sym (one-fails (allowed (variables_of o)) (uses s d o))
        ∙ (sym (ap (λ b. b && not (all_allowed s d o)) root) ∙ ap (misuses_variable s d) (sym is))))

-- a fragment breaks none of the rules
pub fragment-undefined : (s : Schema) (d : Document) (x : Definition) (f : _) → x ≡ fragment f → false ≡ uses_undefined s d x
unfolding uses_undefined
fragment-undefined s d x f is = ap (uses_undefined s d) (sym is)

pub fragment-misused : (s : Schema) (d : Document) (x : Definition) (f : _) → x ≡ fragment f → false ≡ misuses_variable s d x
unfolding misuses_variable
fragment-misused s d x f is = ap (misuses_variable s d) (sym is)
