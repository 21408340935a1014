-- Explanations of the errors of validation (5), and how both are made of what each rule finds at a definition.
use Rattle.std.specs.Prelude.{Bool, true, false, cond, codes, List, [], ◌∷◌, ◌++◌, map, string_bytes}
use Rattle.std.specs.List.{flat_map}
use Rattle.graphql_spec.specs.Shown.{Text}
use Rattle.graphql_spec.specs.Positions.{Position}
use Rattle.graphql_spec.specs.Documents.{Definition, Word, span_of_definition}
use Rattle.graphql_spec.specs.Rules.{RuleError}
use Rattle.juniper_syntax.specs.Positions.{view_position}
use Rattle.juniper_explain.specs.declared.rule.Rule.{Rule}
use Rattle.juniper_explain.specs.declared.rule.Rule.TheVariants as rule
use Rattle.juniper_explain.specs.declared.explanation.Explanation.{Explanation as CodeExplanation}

-- a rule, the place of a node that violates it, and what is said of that
pub record Explanation : Type 0 where
  pub rule : Rule
  pub place : Position
  pub text : Text

abbrev pub view_explanation : CodeExplanation → Explanation
view_explanation e = record { rule = e.rule; place = view_position e.location; text = string_bytes e.message }

abbrev pub view_explanations : List CodeExplanation → List Explanation
view_explanations = map view_explanation

-- the text of the error that is listed where the rule is violated
unfoldable pub rule_text : Rule → Text
rule_text rule.UniqueOperationNames = codes "Operation name is not unique"
rule_text rule.LoneAnonymousOperation = codes "Anonymous operation is not alone"
rule_text rule.UniqueFragmentNames = codes "Fragment name is not unique"
rule_text rule.KnownFragmentNames = codes "Unknown fragment"
rule_text rule.NoFragmentCycles = codes "Fragment spreads itself"
rule_text rule.UniqueVariableNames = codes "Variable name is not unique"
rule_text rule.UniqueArgumentNames = codes "Argument name is not unique"
rule_text rule.UniqueInputFieldNames = codes "Input field name is not unique"
rule_text rule.KnownDirectives = codes "Unknown directive"
rule_text rule.KnownTypeNames = codes "Unknown type"
rule_text rule.FragmentsOnCompositeTypes = codes "Fragment on a type without fields"
rule_text rule.VariablesAreInputTypes = codes "Variable is not of an input type"
rule_text rule.FieldsOnCorrectType = codes "Unknown field"
rule_text rule.ScalarLeafs = codes "Selection set does not fit the field"
rule_text rule.KnownArgumentNames = codes "Unknown argument"
rule_text rule.ProvidedNonNullArguments = codes "Argument is missing"
rule_text rule.ArgumentsOfCorrectType = codes "Argument does not fit its type"
rule_text rule.DefaultValuesOfCorrectType = codes "Default value does not fit its type"
rule_text rule.NoUndefinedVariables = codes "Variable is not defined"
rule_text rule.VariablesInAllowedPosition = codes "Variable may not stand here"
rule_text rule.OverlappingFieldsCanBeMerged = codes "Fields cannot be merged"
rule_text rule.DisableIntrospection = codes "Introspection is disabled"

-- ## What is found

-- a node, where it violates the rule
unfoldable pub found : Bool → Rule → Position → Text → List Explanation
found violated r p t = cond violated (record { rule = r; place = p; text = t } ∷ []) []

-- a name with its place, where it violates the rule; the name stands between two texts
unfoldable pub named : Bool → Rule → Word → Text → Text → List Explanation
named violated r w before after = found violated r w.span.start (before ++ (w.item ++ after))

-- the definition itself, where it violates the rule, with the text of the error that is listed
unfoldable pub whole : Bool → Rule → Definition → List Explanation
whole violated r x = found violated r (span_of_definition x).start (rule_text r)

-- ## Errors, and their explanations

-- a definition, and what each of the rules finds there
pub record Judgement : Type 0 where
  pub definition : Definition
  pub findings : List (List Explanation)

-- all that is found at a definition
unfoldable pub explanations_at : Judgement → List Explanation
explanations_at j = flat_map (λ es. es) j.findings

-- the error that is listed of one rule at a definition: none where the rule finds nothing
unfoldable pub error_of : Definition → List Explanation → List RuleError
error_of x [] = []
error_of x (e ∷ es) = record { message = rule_text e.rule; start = (span_of_definition x).start } ∷ []

-- the errors that are listed at a definition
unfoldable pub errors_at : Judgement → List RuleError
errors_at j = flat_map (error_of j.definition) j.findings

-- each definition with what is found there, of which the earlier ones are given too
unfoldable pub judged : (List Definition → Definition → List (List Explanation)) → List Definition → List Definition → List Judgement
judged f earlier [] = []
judged f earlier (x ∷ xs) = record { definition = x; findings = f earlier x } ∷ judged f (earlier ++ x ∷ []) xs

-- whether there is any
unfoldable pub has_any : {A : Type 0} → List A → Bool
has_any [] = false
has_any (x ∷ xs) = true

-- the second phase where the first finds nothing
unfoldable pub first_judged : List Judgement → List Judgement → List Judgement
first_judged js ks = cond (has_any (flat_map explanations_at js)) js ks
