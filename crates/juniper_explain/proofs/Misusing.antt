-- Variables where they may not stand, with their places.
use Rattle.std.proofs.Common.{◌≡◌, Bool, true, false, not, codes, List, [], ◌∷◌, ◌++◌, Option, Some, None, refl, ap, ◌∙◌}
use Rattle.std.specs.List.{flat_map, list_any}
use Rattle.std.specs.Str.{bytes_eq}
use Rattle.graphql_spec.specs.Shown.{Name, Text}
use Rattle.graphql_spec.specs.Documents.{Definition, operation, fragment, Document, Operation, VariableDefinition, variables_of}
use Rattle.graphql_spec.specs.Placed.{calls}
use Rattle.graphql_spec.specs.Rules as rules
use Rattle.graphql_spec.specs.Schema.{Schema}
use Rattle.graphql_spec.specs.Types.{type_text}
use Rattle.graphql_spec.specs.VariableUses.{Use, all_allowed, allowed, definition_of, may_stand, parts, uses, uses_in_call}
use Rattle.juniper_written.proofs.Deciding.{any-seen}
use Rattle.juniper_type_rules.specs.Positions.{Place, places_used}
use Rattle.juniper_type_rules.proofs.PlacesIn.{uses-flat, used-uses}
use Rattle.juniper_explain.specs.declared.rule.Rule.TheVariants as rule
use Rattle.juniper_explain.specs.Explanations.{Explanation, found, has_any}
use Rattle.juniper_explain.specs.Nodes.{misused_at, misused_by, misused_variables}
use Rattle.juniper_explain.proofs.Found.{AreOf, has-found, of-each, of-found}
use Rattle.juniper_explain.proofs.Joined.{has-each}
use Rattle.juniper_explain.proofs.Undefining.{second, some-not}

-- ## Whether there is any

module _ (s : Schema) where
  at-has : (v : VariableDefinition) (p : Place) → has_any (misused_at v p) ≡ not (may_stand v p.used)
  unfolding misused_at
  at-has v p = has-found _ _ _ _

  one-has : (p : Place) (o : Option VariableDefinition) → has_any (elim o [ None ↦ [] | Some v ↦ misused_at v p ])
      ≡ not (elim o [ None ↦ true | Some v ↦ may_stand v p.used ])
  unfolding has_any
  one-has p None = refl
  one-has p (Some v) = at-has v p

  by-has : (vs : List VariableDefinition) (p : Place) → has_any (misused_by vs p) ≡ not (allowed vs p.used)
  unfolding misused_by allowed
  by-has vs p = one-has p (definition_of vs p.used.variable)

  operation-has : (d : Document) (o : Operation) → has_any (misused_variables s d (operation o)) ≡ not (all_allowed s d o)
  unfolding misused_variables all_allowed uses
  operation-has d o =
      let vs = variables_of o in
      let test : Use → Bool = λ u. not (allowed vs u) in
      let ps = flat_map (places_used s) (parts d o) in
      has-each (misused_by vs) (λ (p : Place). test p.used) (by-has vs) ps
      ∙ (any-seen (λ (p : Place). p.used) test ps
      ∙ (ap (list_any test) (uses-flat (places_used s) (λ x. flat_map (uses_in_call s) (calls s x)) (used-uses s) (parts d o))
      ∙ some-not (allowed vs) (flat_map (λ x. flat_map (uses_in_call s) (calls s x)) (parts d o))))

  -- where the rule is violated
  pub misused-has : (d : Document) (x : Definition) → rules.misuses_variable s d x ≡ true → has_any (misused_variables s d x) ≡ true
  unfolding rules.misuses_variable
  misused-has d (operation o) is = operation-has d o ∙ second (rules.has_root s o) (not (all_allowed s d o)) is
  misused-has d (fragment f) is = cc is

  -- all of them are of the rule
  one-of : (p : Place) (o : Option VariableDefinition) → AreOf rule.VariablesInAllowedPosition (elim o [ None ↦ [] | Some v ↦ misused_at v p ])
  unfolding misused_at
  one-of p None = tt
  one-of p (Some v) = of-found _ _ _ _

  by-of : (vs : List VariableDefinition) (p : Place) → AreOf rule.VariablesInAllowedPosition (misused_by vs p)
  unfolding misused_by
  by-of vs p = one-of p (definition_of vs p.used.variable)

  pub misused-of : (d : Document) (x : Definition) → AreOf rule.VariablesInAllowedPosition (misused_variables s d x)
  unfolding misused_variables
  misused-of d (operation o) = of-each _ (misused_by (variables_of o)) (by-of (variables_of o)) (flat_map (places_used s) (parts d o))
  misused-of d (fragment f) = tt

-- ## The definition of a variable that is found

module _ (n : Name) where
  -- what is left decides
  pub definition-next : (v : VariableDefinition) (vs : List VariableDefinition) → bytes_eq n v.name.item ≡ false → definition_of (v ∷ vs) n ≡ definition_of vs n
  unfolding definition_of
  definition-next v vs other = rw (other) refl

  pub definition-here : (v : VariableDefinition) (vs : List VariableDefinition) → bytes_eq n v.name.item ≡ true → definition_of (v ∷ vs) n ≡ Some v
  unfolding definition_of
  definition-here v vs same = rw (same) refl

-- ## What the code finds

-- what is said of a variable where it may not stand
abbrev misused_message : VariableDefinition → Place → Text
misused_message v p = codes "Variable `$" ++ (p.used.variable ++ (codes "` of type `" ++ (type_text v.of_type.item
    ++ (codes "` cannot stand where `" ++ (type_text p.used.place ++ codes "` is expected")))))

pub stands : (v : VariableDefinition) (p : Place) → may_stand v p.used ≡ true → [] ≡ misused_at v p
unfolding misused_at found
stands v p is = rw (is) refl

pub stands-not : (v : VariableDefinition) (p : Place) (t : Text) → t ≡ misused_message v p → may_stand v p.used ≡ false →
    (let e : Explanation = record { rule = rule.VariablesInAllowedPosition; place = p.span.start; text = t } in e ∷ [] ≡ misused_at v p)
unfolding misused_at found
stands-not v p t said is = rw (said) (rw (is) refl)
