-- Where validation finds nothing, no rule is violated at any definition.
use Rattle.std.specs.Prelude.{Bool, true, false, List, [], ◌∷◌, ◌++◌, ◌≡◌}
use Rattle.std.proofs.Common.{refl, ap, ◌∙◌, inl, inr}
use Rattle.graphql_spec.specs.Shown.{Text}
use Rattle.graphql_spec.specs.Documents.{Definition, Document}
use Rattle.graphql_spec.specs.Schema.{Schema}
use Rattle.graphql_spec.specs.Rules.{RuleError, spreads_unknown, spreads_itself, repeats_variable, repeats_argument, repeats_input_field, has_unknown_directive}
use Rattle.graphql_spec.specs.Rules.{has_unknown_type, has_other_condition, has_other_variable, has_unknown_field, has_wrong_set, has_unknown_argument}
use Rattle.graphql_spec.specs.Rules.{lacks_argument, has_wrong_argument, has_wrong_default, cannot_merge, looks_at_schema, reported, at_each, first_found}
use Rattle.graphql_spec.specs.Rules.{name_errors, type_errors, use_errors, rule_errors}
use Rattle.graphql_spec.specs.Laws.{In}

-- ## Lists of errors

not-empty : {A : Type 0} (x : A) (xs : List A) → x ∷ xs ≡ [] → ⊥
not-empty x xs e = cc

both-empty : {A : Type 0} (xs ys : List A) → xs ++ ys ≡ [] → (xs ≡ []) × (ys ≡ [])
both-empty [] ys e = (refl, e)
both-empty (x ∷ xs) ys e = absurd (not-empty x (xs ++ ys) e)

first-empty : (ds es : List RuleError) → first_found ds es ≡ [] → (ds ≡ []) × (es ≡ [])
unfolding first_found
first-empty [] es e = (refl, e)
first-empty (x ∷ ds) es e = absurd (not-empty x ds e)

not-reported : (violated : Bool) (text : Text) (x : Definition) → reported violated text x ≡ [] → violated ≡ false
unfolding reported
not-reported true text x e = absurd (not-empty _ [] e)
not-reported false text x e = refl

-- what the earlier rules report, and a rule that reports nothing
last : (violated : Bool) (text : Text) (x : Definition) (earlier : List RuleError) → earlier ++ reported violated text x ≡ [] →
    (earlier ≡ []) × (violated ≡ false)
last violated text x earlier e = let p = both-empty earlier (reported violated text x) e in (p.0, not-reported violated text x p.1)

at_each-in : (f : List Definition → Definition → List RuleError) (earlier ds : List Definition) → at_each f earlier ds ≡ [] → (x : Definition) → In x ds →
    (before : List Definition) × (f before x ≡ [])
unfolding at_each
at_each-in f earlier [] e x i = absurd i
at_each-in f earlier (z ∷ ds) e x (inl q) = (earlier, ap (f earlier) q ∙ (both-empty (f earlier z) (at_each f (earlier ++ z ∷ []) ds) e).0)
at_each-in f earlier (z ∷ ds) e x (inr i) = at_each-in f (earlier ++ z ∷ []) ds (both-empty (f earlier z) (at_each f (earlier ++ z ∷ []) ds) e).1 x i

-- ## What no definition violates

module _ (s : Schema) (disabled : Bool) (d : Document) where
  -- the rules on names that are needed
  pub record NamesHold (x : Definition) : Type 0 where
    pub spreads_known : spreads_unknown d x ≡ false
    pub spreads_end : spreads_itself d x ≡ false
    pub arguments_differ : repeats_argument x ≡ false
    pub input_fields_differ : repeats_input_field x ≡ false

  pub names-hold : at_each (name_errors s disabled d) [] d ≡ [] → (x : Definition) → In x d → NamesHold x
  unfolding name_errors
  names-hold e x i =
      let z = at_each-in (name_errors s disabled d) [] d e x i in
      let a = last (has_unknown_type s x) _ x _ z.1 in
      let b = last (has_unknown_directive x) _ x _ a.0 in
      let c = last (repeats_input_field x) _ x _ b.0 in
      let f = last (repeats_argument x) _ x _ c.0 in
      let g = last (repeats_variable x) _ x _ f.0 in
      let h = last (spreads_itself d x) _ x _ g.0 in
      let j = last (spreads_unknown d x) _ x _ h.0 in
      record { spreads_known = j.1; spreads_end = h.1; arguments_differ = f.1; input_fields_differ = c.1 }

  -- the rules on types that are needed
  pub record TypesHold (x : Definition) : Type 0 where
    pub conditions_composite : has_other_condition s x ≡ false
    pub fields_known : has_unknown_field s x ≡ false

  pub types-hold : at_each (type_errors s disabled d) [] d ≡ [] → (x : Definition) → In x d → TypesHold x
  unfolding type_errors
  types-hold e x i =
      let z = at_each-in (type_errors s disabled d) [] d e x i in
      let a = last (has_wrong_default s x) _ x _ z.1 in
      let b = last (has_wrong_argument s x) _ x _ a.0 in
      let c = last (lacks_argument s x) _ x _ b.0 in
      let f = last (has_unknown_argument s x) _ x _ c.0 in
      let g = last (has_wrong_set s x) _ x _ f.0 in
      let h = last (has_unknown_field s x) _ x _ g.0 in
      let j = last (has_other_variable s x) _ x _ h.0 in
      record { conditions_composite = not-reported (has_other_condition s x) _ x j.0; fields_known = h.1 }

  -- the sets merge
  pub sets-hold : at_each (use_errors s disabled d) [] d ≡ [] → (x : Definition) → In x d → cannot_merge s d x ≡ false
  unfolding use_errors
  sets-hold e x i =
      let z = at_each-in (use_errors s disabled d) [] d e x i in
      let a = last (looks_at_schema s disabled x) _ x _ z.1 in
      (last (cannot_merge s d x) _ x _ a.0).1

  -- nothing asks for introspection where it is disabled
  pub looks-hold : at_each (use_errors s disabled d) [] d ≡ [] → (x : Definition) → In x d → looks_at_schema s disabled x ≡ false
  unfolding use_errors
  looks-hold e x i =
      let z = at_each-in (use_errors s disabled d) [] d e x i in
      (last (looks_at_schema s disabled x) _ x _ z.1).1

  -- each phase finds nothing
  pub record PhasesHold : Type 0 where
    pub names : at_each (name_errors s disabled d) [] d ≡ []
    pub types : at_each (type_errors s disabled d) [] d ≡ []
    pub uses : at_each (use_errors s disabled d) [] d ≡ []

  pub phases-hold : rule_errors s disabled d ≡ [] → PhasesHold
  unfolding rule_errors
  phases-hold e =
      let a = first-empty (at_each (name_errors s disabled d) [] d) _ e in
      let b = first-empty (at_each (type_errors s disabled d) [] d) _ a.1 in
      record { names = a.0; types = b.0; uses = b.1 }
