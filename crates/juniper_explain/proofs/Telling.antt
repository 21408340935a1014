-- The list of errors, by what the rules find.
use Rattle.std.proofs.Common.{◌≡◌, ℕ, Bool, true, false, ◌||◌, ◌&&◌, not, cond, codes, List, [], ◌∷◌, ◌++◌, Option, Some, None, map, refl, sym, ap, ap₂, ◌∙◌}
use Rattle.std.specs.List.{flat_map, list_any}
use Rattle.std.specs.Option.{is_none}
use Rattle.std.specs.Str.{bytes_eq}
use Rattle.graphql_spec.specs.Documents.{Argument, Definition, Document, Word, VariableDefinition, fragments}
use Rattle.graphql_spec.specs.Positions.{Spanned}
use Rattle.graphql_spec.specs.Inputs.{Input}
use Rattle.graphql_spec.specs.Fields.{declaration_in, is_composite, is_input, type_named}
use Rattle.graphql_spec.specs.Fits.{fits}
use Rattle.graphql_spec.specs.Fragments.{fragment_of}
use Rattle.graphql_spec.specs.Placed.{Placed, directive_named, placed_in}
use Rattle.graphql_spec.specs.Rules as rules
use Rattle.graphql_spec.specs.Rules.{RuleError, at_each, first_found, reported, rule_errors, gives_too_few, gives_unknown, gives_wrong, set_is_wrong}
use Rattle.graphql_spec.specs.Rules.{must_be_written, variable_types}
use Rattle.graphql_spec.specs.Schema.{Schema, FieldDeclaration, InputDeclaration}
use Rattle.graphql_spec.specs.Types.{innermost}
use Rattle.graphql_spec.specs.Written.{all_conditions, all_directives, argument_lists, defined_variables, heads, repeats, selections_of}
use Rattle.juniper_explain.specs.declared.rule.Rule.{Rule}
use Rattle.juniper_explain.specs.declared.rule.Rule.TheVariants as rule
use Rattle.juniper_explain.specs.Explanations.{Explanation, Judgement, error_of, errors_at, explanations_at, first_judged, has_any, judged, named, rule_text}
use Rattle.juniper_explain.specs.Explanations.{whole}
use Rattle.juniper_explain.specs.Nodes.{inside_findings, judgements, missing_argument, name_findings, other_condition, other_operation, other_variable}
use Rattle.juniper_explain.specs.Nodes.{own_spread}
use Rattle.juniper_explain.specs.Nodes.{repeated_fragment, repeated_operation, type_findings, unknown_argument, unknown_directive, unknown_field}
use Rattle.juniper_explain.specs.Nodes.{unknown_spread}
use Rattle.juniper_explain.specs.Nodes.{introspection_field, misused_variables, undefined_variables, where_found}
use Rattle.juniper_explain.specs.Nodes.{misfit, missing_arguments, repeated_arguments, repeated_in, repeated_of, repeated_variables}
use Rattle.juniper_explain.specs.Nodes.{unknown_arguments, unknown_types}
use Rattle.juniper_explain.specs.Nodes.{unknown_type, use_findings, wrong_argument, wrong_arguments, wrong_default, wrong_set}
use Rattle.juniper_explain.specs.Sites.{Site, sites}
use Rattle.juniper_explain.specs.Words.{condition_words, definition_word, directive_word, spread_words, type_word}
use Rattle.juniper_explain.proofs.Found.{AreOf, error-is, has-found, of-append, of-each, of-found}
use Rattle.juniper_type_rules.proofs.Behind.{any-either}
use Rattle.juniper_written.proofs.Deciding.{any-seen}
use Rattle.juniper_explain.proofs.Joined.{all-from-left, has-append, has-each, has-flat, any-same}
use Rattle.juniper_written.proofs.Lists.{seen-twice}
use Rattle.juniper_explain.proofs.InputFields.{input-error}
use Rattle.juniper_explain.proofs.Misusing.{misused-has, misused-of}
use Rattle.juniper_explain.proofs.Repeating.{first-has, of-repeated}
use Rattle.juniper_explain.proofs.SiteCalls.{any-call}
use Rattle.juniper_explain.proofs.Undefining.{undefined-has, undefined-of}
use Rattle.juniper_explain.proofs.WordNames.{conditions-are, spreads-are}

-- ## Names with places

pub named-is : (b : Bool) (r : Rule) (w : Word) (t u : List ℕ) → has_any (named b r w t u) ≡ b
unfolding named
named-is b r w t u = has-found b r w.span.start _

pub of-named : (b : Bool) (r : Rule) (w : Word) (t u : List ℕ) → AreOf r (named b r w t u)
unfolding named
of-named b r w t u = of-found b r w.span.start _

named-error : (x : Definition) (b : Bool) (r : Rule) (w : Word) (t u : List ℕ) → error_of x (named b r w t u) ≡ reported b (rule_text r) x
named-error x b r w t u = error-is r x _ b (of-named b r w t u) (named-is b r w t u)

whole-error : (x : Definition) (b : Bool) (r : Rule) → error_of x (whole b r x) ≡ reported b (rule_text r) x
unfolding whole
whole-error x b r = error-is r x _ b (of-found b r _ _) (has-found b r _ _)

-- what is found at each of some nodes
each-error : {A : Type 0} (r : Rule) (x : Definition) (f : A → List Explanation) (test : A → Bool) → ((a : A) → AreOf r (f a)) →
    ((a : A) → has_any (f a) ≡ test a) → (xs : List A) (b : Bool) → list_any test xs ≡ b → error_of x (flat_map f xs) ≡ reported b (rule_text r) x
each-error r x f test are has xs b is = error-is r x (flat_map f xs) b (of-each r f are xs) (has-each f test has xs ∙ is)

-- ## Rules on names

spread-error : (d : Document) (x : Definition) → error_of x (flat_map (unknown_spread d) (spread_words (selections_of x)))
    ≡ reported (rules.spreads_unknown d x) (rule_text rule.KnownFragmentNames) x
unfolding unknown_spread rules.spreads_unknown
spread-error d x = each-error rule.KnownFragmentNames x (unknown_spread d) (λ w. is_none (fragment_of (fragments d) w.item))
    (λ w. of-named _ _ w _ _) (λ w. named-is _ _ w _ _) (spread_words (selections_of x)) _
    (any-seen (λ w. w.item) (λ k. is_none (fragment_of (fragments d) k)) (spread_words (selections_of x))
    ∙ ap (list_any (λ k. is_none (fragment_of (fragments d) k))) (spreads-are (selections_of x)))

variables-error : (x : Definition) → error_of x (repeated_variables x) ≡ reported (rules.repeats_variable x) (rule_text rule.UniqueVariableNames) x
unfolding repeated_variables repeated_of rules.repeats_variable
variables-error x =
    let vs = defined_variables x in
    error-is rule.UniqueVariableNames x _ _ (of-repeated _ _ _ (λ n. false) (map (λ (v : VariableDefinition). v.name) vs))
    (first-has _ _ _ (map (λ (v : VariableDefinition). v.name) vs)
    ∙ ap repeats (sym (seen-twice (λ (v : VariableDefinition). v.name) (λ (w : Word). w.item) vs)))

arguments-error : (x : Definition) → error_of x (repeated_arguments x) ≡ reported (rules.repeats_argument x) (rule_text rule.UniqueArgumentNames) x
unfolding repeated_arguments repeated_in rules.repeats_argument
arguments-error x = each-error rule.UniqueArgumentNames x repeated_in (λ as'. repeats (map (λ a. a.name.item) as'))
    (λ as'. of-repeated _ _ _ (λ n. false) (map (λ (a : Argument). a.name) as'))
    (λ as'. first-has _ _ _ (map (λ (a : Argument). a.name) as')
    ∙ ap repeats (sym (seen-twice (λ (a : Argument). a.name) (λ (w : Word). w.item) as')))
    (argument_lists x) _ refl

directive-error : (x : Definition) → error_of x (flat_map unknown_directive (all_directives x))
    ≡ reported (rules.has_unknown_directive x) (rule_text rule.KnownDirectives) x
unfolding unknown_directive rules.has_unknown_directive
directive-error x = each-error rule.KnownDirectives x unknown_directive (λ y. is_none (directive_named y.name.item))
    (λ y. of-named _ _ (directive_word y) _ _) (λ y. named-is _ _ (directive_word y) _ _) (all_directives x) _ refl

-- a test of the conditions of a definition
on-conditions : (x : Definition) (test : List ℕ → Bool) → list_any (λ (w : Word). test w.item) (condition_words x) ≡ list_any test (all_conditions x)
on-conditions x test = any-seen (λ w. w.item) test (condition_words x) ∙ ap (list_any test) (conditions-are x)

type-error : (s : Schema) (x : Definition) →
    error_of x (flat_map (unknown_type s) (condition_words x) ++ flat_map (λ v. unknown_type s (type_word v)) (defined_variables x))
    ≡ reported (rules.has_unknown_type s x) (rule_text rule.KnownTypeNames) x
unfolding unknown_type rules.has_unknown_type variable_types type_word
type-error s x =
    let test : List ℕ → Bool = λ n. is_none (type_named s n) in
    let cs = condition_words x in
    let vs = defined_variables x in
    error-is rule.KnownTypeNames x _ _
    (of-append _ _ _ (of-each _ (unknown_type s) (λ w. of-named _ _ w _ _) cs) (of-each _ (λ v. unknown_type s (type_word v))
    (λ v. of-named _ _ (type_word v) _ _) vs))
    (has-append (flat_map (unknown_type s) cs) (flat_map (λ v. unknown_type s (type_word v)) vs)
    ∙ (ap₂ (λ a b. a || b)
    (has-each (unknown_type s) (λ w. test w.item) (λ w. named-is _ _ w _ _) cs ∙ on-conditions x test)
    (has-each (λ v. unknown_type s (type_word v)) (λ v. test (innermost v.of_type.item)) (λ v. named-is _ _ (type_word v) _ _) vs
    ∙ any-seen (λ v. innermost v.of_type.item) test vs)
    ∙ sym (any-either test _ _)))

-- ## Rules on types

condition-error : (s : Schema) (x : Definition) → error_of x (flat_map (other_condition s) (condition_words x))
    ≡ reported (rules.has_other_condition s x) (rule_text rule.FragmentsOnCompositeTypes) x
unfolding other_condition rules.has_other_condition
condition-error s x = each-error rule.FragmentsOnCompositeTypes x (other_condition s) (λ w. not (is_composite (type_named s w.item)))
    (λ w. of-named _ _ w _ _) (λ w. named-is _ _ w _ _) (condition_words x) _ (on-conditions x (λ n. not (is_composite (type_named s n))))

variable-error : (s : Schema) (x : Definition) → error_of x (flat_map (other_variable s) (defined_variables x))
    ≡ reported (rules.has_other_variable s x) (rule_text rule.VariablesAreInputTypes) x
unfolding other_variable rules.has_other_variable variable_types
variable-error s x = each-error rule.VariablesAreInputTypes x (other_variable s) (λ v. not (is_input (type_named s (innermost v.of_type.item))))
    (λ v. of-found _ _ _ _) (λ v. has-found _ _ _ _) (defined_variables x) _
    (any-seen (λ v. innermost v.of_type.item) (λ n. not (is_input (type_named s n))) (defined_variables x))

field-error : (s : Schema) (x : Definition) → error_of x (flat_map (unknown_field s) (placed_in s x))
    ≡ reported (rules.has_unknown_field s x) (rule_text rule.FieldsOnCorrectType) x
unfolding unknown_field rules.has_unknown_field
field-error s x = each-error rule.FieldsOnCorrectType x (unknown_field s) (λ p. is_none p.declared)
    (λ p. of-found _ _ _ _) (λ p. has-found _ _ _ _) (placed_in s x) _ refl

set-of : (s : Schema) (p : Placed) (o : Option FieldDeclaration) → AreOf rule.ScalarLeafs (wrong_set s p o)
unfolding wrong_set
set-of s p None = tt
set-of s p (Some d) = of-found _ _ _ _

set-has : (s : Schema) (p : Placed) (o : Option FieldDeclaration) →
    has_any (wrong_set s p o) ≡ elim o [ None ↦ false | Some d ↦ set_is_wrong s p.head.has_set d.of_type ]
unfolding wrong_set has_any
set-has s p None = refl
set-has s p (Some d) = has-found _ _ _ _

set-error : (s : Schema) (x : Definition) → error_of x (flat_map (λ p. wrong_set s p p.declared) (placed_in s x))
    ≡ reported (rules.has_wrong_set s x) (rule_text rule.ScalarLeafs) x
unfolding rules.has_wrong_set
set-error s x = each-error rule.ScalarLeafs x (λ p. wrong_set s p p.declared)
    (λ p. elim p.declared [ None ↦ false | Some d ↦ set_is_wrong s p.head.has_set d.of_type ])
    (λ p. set-of s p p.declared) (λ p. set-has s p p.declared) (placed_in s x) _ refl

unknown-error : (s : Schema) (x : Definition) → error_of x (flat_map (λ i. flat_map (unknown_argument i) i.given) (sites s x))
    ≡ reported (rules.has_unknown_argument s x) (rule_text rule.KnownArgumentNames) x
unfolding unknown_argument rules.has_unknown_argument gives_unknown
unknown-error s x = each-error rule.KnownArgumentNames x (λ i. flat_map (unknown_argument i) i.given)
    (λ i. list_any (λ a. is_none (declaration_in i.declared a.name.item)) i.given)
    (λ i. of-each _ (unknown_argument i) (λ a. of-found _ _ _ _) i.given)
    (λ i. has-each (unknown_argument i) (λ a. is_none (declaration_in i.declared a.name.item)) (λ a. has-found _ _ _ _) i.given)
    (sites s x) _ (any-call s x gives_unknown)

missing-error : (s : Schema) (x : Definition) → error_of x (flat_map (λ i. flat_map (missing_argument i) i.declared) (sites s x))
    ≡ reported (rules.lacks_argument s x) (rule_text rule.ProvidedNonNullArguments) x
unfolding missing_argument rules.lacks_argument gives_too_few
missing-error s x = each-error rule.ProvidedNonNullArguments x (λ i. flat_map (missing_argument i) i.declared)
    (λ i. list_any (λ d. must_be_written d && not (list_any (λ a. bytes_eq d.name a.name.item) i.given)) i.declared)
    (λ i. of-each _ (missing_argument i) (λ d. of-found _ _ _ _) i.declared)
    (λ i. has-each (missing_argument i) (λ d. must_be_written d && not (list_any (λ a. bytes_eq d.name a.name.item) i.given))
    (λ d. has-found _ _ _ _) i.declared)
    (sites s x) _ (any-call s x gives_too_few)

wrong-of : (s : Schema) (i : Site) (a : Argument) (o : Option InputDeclaration) → AreOf rule.ArgumentsOfCorrectType (wrong_argument s i a o)
unfolding wrong_argument
wrong-of s i a None = tt
wrong-of s i a (Some d) = of-found _ _ _ _

wrong-has : (s : Schema) (i : Site) (a : Argument) (o : Option InputDeclaration) →
    has_any (wrong_argument s i a o) ≡ elim o [ None ↦ false | Some d ↦ not (fits s false a.value.item d.of_type) ]
unfolding wrong_argument has_any
wrong-has s i a None = refl
wrong-has s i a (Some d) = has-found _ _ _ _

wrong-error : (s : Schema) (x : Definition) →
    error_of x (flat_map (λ i. flat_map (λ a. wrong_argument s i a (declaration_in i.declared a.name.item)) i.given) (sites s x))
    ≡ reported (rules.has_wrong_argument s x) (rule_text rule.ArgumentsOfCorrectType) x
unfolding rules.has_wrong_argument gives_wrong
wrong-error s x = each-error rule.ArgumentsOfCorrectType x
    (λ i. flat_map (λ a. wrong_argument s i a (declaration_in i.declared a.name.item)) i.given)
    (λ i. list_any (λ a. elim (declaration_in i.declared a.name.item) [ None ↦ false | Some d ↦ not (fits s false a.value.item d.of_type) ]) i.given)
    (λ i. of-each _ (λ a. wrong_argument s i a (declaration_in i.declared a.name.item))
    (λ a. wrong-of s i a (declaration_in i.declared a.name.item)) i.given)
    (λ i. has-each (λ a. wrong_argument s i a (declaration_in i.declared a.name.item))
    (λ a. elim (declaration_in i.declared a.name.item) [ None ↦ false | Some d ↦ not (fits s false a.value.item d.of_type) ])
    (λ a. wrong-has s i a (declaration_in i.declared a.name.item)) i.given)
    (sites s x) _ (any-call s x (gives_wrong s))

default-of : (s : Schema) (v : VariableDefinition) (o : Option (Spanned Input)) → AreOf rule.DefaultValuesOfCorrectType (wrong_default s v o)
unfolding wrong_default misfit
default-of s v None = tt
default-of s v (Some w) = of-found _ _ _ _

default-has : (s : Schema) (v : VariableDefinition) (o : Option (Spanned Input)) →
    has_any (wrong_default s v o) ≡ elim o [ None ↦ false | Some w ↦ not (fits s false w.item v.of_type.item) ]
unfolding wrong_default misfit has_any
default-has s v None = refl
default-has s v (Some w) = has-found _ _ _ _

default-error : (s : Schema) (x : Definition) → error_of x (flat_map (λ v. wrong_default s v v.default) (defined_variables x))
    ≡ reported (rules.has_wrong_default s x) (rule_text rule.DefaultValuesOfCorrectType) x
unfolding rules.has_wrong_default
default-error s x = each-error rule.DefaultValuesOfCorrectType x (λ v. wrong_default s v v.default)
    (λ v. elim v.default [ None ↦ false | Some w ↦ not (fits s false w.item v.of_type.item) ])
    (λ v. default-of s v v.default) (λ v. default-has s v v.default) (defined_variables x) _ refl

-- ## Rules on uses

if-found : (b h : Bool) (es : List Explanation) → has_any es ≡ h → (b ≡ true → h ≡ true) → has_any (where_found b es) ≡ b
unfolding where_found has_any
if-found true h es is holds = is ∙ holds refl
if-found false h es is holds = refl

of-where : (r : Rule) (b : Bool) (es : List Explanation) → AreOf r es → AreOf r (where_found b es)
unfolding where_found
of-where r true es are = are
of-where r false es are = tt

undefined-error : (s : Schema) (d : Document) (x : Definition) → error_of x (where_found (rules.uses_undefined s d x) (undefined_variables d x))
    ≡ reported (rules.uses_undefined s d x) (rule_text rule.NoUndefinedVariables) x
undefined-error s d x = error-is rule.NoUndefinedVariables x _ _ (of-where _ _ _ (undefined-of d x))
    (if-found (rules.uses_undefined s d x) (has_any (undefined_variables d x)) (undefined_variables d x) refl (undefined-has s d x))

misused-error : (s : Schema) (d : Document) (x : Definition) → error_of x (where_found (rules.misuses_variable s d x) (misused_variables s d x))
    ≡ reported (rules.misuses_variable s d x) (rule_text rule.VariablesInAllowedPosition) x
misused-error s d x = error-is rule.VariablesInAllowedPosition x _ _ (of-where _ _ _ (misused-of s d x))
    (if-found (rules.misuses_variable s d x) (has_any (misused_variables s d x)) (misused_variables s d x) refl (misused-has s d x))

and-both : (a b c : Bool) → (a && (b && c)) ≡ true → c ≡ true
and-both true true c is = is
and-both true false c is = cc is
and-both false b c is = cc is

schema-error : (s : Schema) (disabled : Bool) (x : Definition) →
    error_of x (where_found (rules.looks_at_schema s disabled x) (flat_map introspection_field (heads (selections_of x))))
    ≡ reported (rules.looks_at_schema s disabled x) (rule_text rule.DisableIntrospection) x
unfolding rules.looks_at_schema introspection_field
schema-error s disabled x = error-is rule.DisableIntrospection x _ _
    (of-where _ _ _ (of-each _ introspection_field (λ h. of-named _ _ h.name _ _) (heads (selections_of x))))
    (if-found _ (list_any (λ h. rules.is_introspection h.name.item) (heads (selections_of x))) _
    (has-each introspection_field (λ h. rules.is_introspection h.name.item) (λ h. named-is _ _ h.name _ _) (heads (selections_of x)))
    (and-both disabled (rules.can_look s x) (list_any (λ h. rules.is_introspection h.name.item) (heads (selections_of x)))))

-- ## Phases

module _ (s : Schema) (disabled : Bool) (d : Document) where
  names-told : (earlier : List Definition) (x : Definition) →
      rules.name_errors s disabled d earlier x ≡ flat_map (error_of x) (name_findings s d earlier x)
  unfolding rules.name_errors name_findings inside_findings repeated_operation other_operation repeated_fragment own_spread unknown_types
      rule_text
  names-told earlier x =
      all-from-left (reported (rules.repeats_operation earlier x) (codes "Operation name is not unique") x) (
      reported (rules.is_not_alone d x) (codes "Anonymous operation is not alone") x
      ∷ reported (rules.repeats_fragment earlier x) (codes "Fragment name is not unique") x
      ∷ reported (rules.spreads_unknown d x) (codes "Unknown fragment") x
      ∷ reported (rules.spreads_itself d x) (codes "Fragment spreads itself") x
      ∷ reported (rules.repeats_variable x) (codes "Variable name is not unique") x
      ∷ reported (rules.repeats_argument x) (codes "Argument name is not unique") x
      ∷ reported (rules.repeats_input_field x) (codes "Input field name is not unique") x
      ∷ reported (rules.has_unknown_directive x) (codes "Unknown directive") x
      ∷ reported (rules.has_unknown_type s x) (codes "Unknown type") x ∷ [])
      ∙ sym (ap₂ (λ a b. a ++ b) (named-error x _ _ (definition_word x) _ _)
      (ap₂ (λ a b. a ++ b) (whole-error x _ _)
      (ap₂ (λ a b. a ++ b) (named-error x _ _ (definition_word x) _ _)
      (ap₂ (λ a b. a ++ b) (spread-error d x)
      (ap₂ (λ a b. a ++ b) (named-error x _ _ (definition_word x) _ _)
      (ap₂ (λ a b. a ++ b) (variables-error x)
      (ap₂ (λ a b. a ++ b) (arguments-error x)
      (ap₂ (λ a b. a ++ b) (input-error x)
      (ap₂ (λ a b. a ++ b) (directive-error x)
      (ap (λ a. a ++ []) (type-error s x)))))))))))

  types-told : (earlier : List Definition) (x : Definition) → rules.type_errors s disabled d earlier x ≡ flat_map (error_of x) (type_findings s earlier x)
  unfolding rules.type_errors type_findings unknown_arguments missing_arguments wrong_arguments rule_text
  types-told earlier x =
      all-from-left (reported (rules.has_other_condition s x) (codes "Fragment on a type without fields") x) (
      reported (rules.has_other_variable s x) (codes "Variable is not of an input type") x
      ∷ reported (rules.has_unknown_field s x) (codes "Unknown field") x
      ∷ reported (rules.has_wrong_set s x) (codes "Selection set does not fit the field") x
      ∷ reported (rules.has_unknown_argument s x) (codes "Unknown argument") x
      ∷ reported (rules.lacks_argument s x) (codes "Argument is missing") x
      ∷ reported (rules.has_wrong_argument s x) (codes "Argument does not fit its type") x
      ∷ reported (rules.has_wrong_default s x) (codes "Default value does not fit its type") x ∷ [])
      ∙ sym (ap₂ (λ a b. a ++ b) (condition-error s x)
      (ap₂ (λ a b. a ++ b) (variable-error s x)
      (ap₂ (λ a b. a ++ b) (field-error s x)
      (ap₂ (λ a b. a ++ b) (set-error s x)
      (ap₂ (λ a b. a ++ b) (unknown-error s x)
      (ap₂ (λ a b. a ++ b) (missing-error s x)
      (ap₂ (λ a b. a ++ b) (wrong-error s x)
      (ap (λ a. a ++ []) (default-error s x)))))))))

  uses-told : (earlier : List Definition) (x : Definition) → rules.use_errors s disabled d earlier x ≡ flat_map (error_of x)
      (use_findings s disabled d earlier x)
  unfolding rules.use_errors use_findings rule_text
  uses-told earlier x =
      all-from-left (reported (rules.uses_undefined s d x) (codes "Variable is not defined") x) (
      reported (rules.misuses_variable s d x) (codes "Variable may not stand here") x
      ∷ reported (rules.cannot_merge s d x) (codes "Fields cannot be merged") x
      ∷ reported (rules.looks_at_schema s disabled x) (codes "Introspection is disabled") x ∷ [])
      ∙ sym (ap₂ (λ a b. a ++ b) (undefined-error s d x)
      (ap₂ (λ a b. a ++ b) (misused-error s d x)
      (ap₂ (λ a b. a ++ b) (whole-error x _ _)
      (ap (λ a. a ++ []) (schema-error s disabled x)))))

-- ## Definitions

module _ (f : List Definition → Definition → List RuleError) (g : List Definition → Definition → List (List Explanation))
    (same : (earlier : List Definition) (x : Definition) → f earlier x ≡ flat_map (error_of x) (g earlier x)) where
  pub each-told : (earlier xs : List Definition) → at_each f earlier xs ≡ flat_map errors_at (judged g earlier xs)
  unfolding at_each judged errors_at
  each-told earlier [] = refl
  each-told earlier (x ∷ xs) = ap₂ (λ a b. a ++ b) (same earlier x) (each-told (earlier ++ x ∷ []) xs)

one-has : (x : Definition) (es : List Explanation) → has_any (error_of x es) ≡ has_any es
unfolding has_any error_of
one-has x [] = refl
one-has x (e ∷ es) = refl

at-has : (j : Judgement) → has_any (errors_at j) ≡ has_any (explanations_at j)
unfolding errors_at explanations_at
at-has j = has-flat (error_of j.definition) j.findings ∙ (any-same (λ es. has_any (error_of j.definition es)) has_any (one-has j.definition) j.findings
    ∙ sym (has-flat (λ es. es) j.findings))

-- some error is listed where something is found
pub errors-has : (js : List Judgement) → has_any (flat_map errors_at js) ≡ has_any (flat_map explanations_at js)
errors-has js = has-flat errors_at js ∙ (any-same (λ j. has_any (errors_at j)) (λ j. has_any (explanations_at j)) at-has js
    ∙ sym (has-flat explanations_at js))

first-cases : (es fs : List RuleError) → first_found es fs ≡ cond (has_any es) es fs
unfolding first_found has_any
first-cases [] fs = refl
first-cases (e ∷ es) fs = refl

either-told : (b : Bool) (js ks : List Judgement) → cond b (flat_map errors_at js) (flat_map errors_at ks) ≡ flat_map errors_at (cond b js ks)
either-told true js ks = refl
either-told false js ks = refl

first-told : (js ks : List Judgement) (es fs : List RuleError) → es ≡ flat_map errors_at js → fs ≡ flat_map errors_at ks →
    first_found es fs ≡ flat_map errors_at (first_judged js ks)
unfolding first_judged
first-told js ks es fs a b =
    ap₂ first_found a b ∙ (first-cases (flat_map errors_at js) (flat_map errors_at ks)
    ∙ (ap (λ c. cond c (flat_map errors_at js) (flat_map errors_at ks)) (errors-has js)
    ∙ either-told (has_any (flat_map explanations_at js)) js ks))

module _ (s : Schema) (disabled : Bool) (d : Document) where
  -- the errors of the first phase
  pub names-listed : at_each (rules.name_errors s disabled d) [] d ≡ flat_map errors_at (judged (name_findings s d) [] d)
  names-listed = each-told (rules.name_errors s disabled d) (name_findings s d) (names-told s disabled d) [] d

  -- the list of errors
  pub errors-told : rule_errors s disabled d ≡ flat_map errors_at (judgements s disabled d)
  unfolding rule_errors judgements
  errors-told = first-told (judged (name_findings s d) [] d) (first_judged (judged (type_findings s) [] d) (judged (use_findings s disabled d) [] d)) _ _
      names-listed (first-told (judged (type_findings s) [] d) (judged (use_findings s disabled d) [] d) _ _
      (each-told (rules.type_errors s disabled d) (type_findings s) (types-told s disabled d) [] d)
      (each-told (rules.use_errors s disabled d) (use_findings s disabled d) (uses-told s disabled d) [] d))
