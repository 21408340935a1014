-- What explains a refusal to whoever sent the request, and the line that tells it (5, 6.1.2, 7.1).
use Rattle.std.specs.Prelude.{◌≡◌, ◌||◌, ◌∷◌, ℕ, Bool, cond, find, length, List, [], map, nat_lt, None, Option, option_map, Some}
use Rattle.graphql_spec.specs.Documents.{Document, Operation, variables_of}
use Rattle.graphql_spec.specs.Inputs.{Variables}
use Rattle.graphql_spec.specs.Outcomes.{Reads, Request}
use Rattle.graphql_spec.specs.Positions.{Position, same_position}
use Rattle.graphql_spec.specs.Requests.{Choice, choose, chosen, many, unknown, variable_errors}
use Rattle.graphql_spec.specs.Rules.{RuleError, rule_errors}
use Rattle.graphql_spec.specs.Schema.{Schema}
use Rattle.graphql_spec.specs.Shown.{Text}
use Rattle.juniper.specs.RequestErrors.{RequestError, not_valid}
use Rattle.juniper_explain.specs.Explanations.{Explanation, rule_text}
use Rattle.juniper_explain.specs.GivenValues.{VariableExplanation, variable_explanations}
use Rattle.juniper_explain.specs.Nodes.{explanations}
use Rattle.juniper_explain.specs.declared.rule.Rule.{Rule}
use Rattle.juniper_explain.specs.declared.rule.Rule.TheVariants as rule
use Rattle.juniper_json.specs.Refusals.{refusals_of}
use Rattle.juniper_json.specs.RefusalText.{BrokenRule, Refusal, explained_text, refusals_text}

-- the number of a rule: its place, from 1, in the order in which errors are listed at a definition (5)
unfoldable pub rule_number : Rule → ℕ
rule_number rule.UniqueOperationNames = 1
rule_number rule.LoneAnonymousOperation = 2
rule_number rule.UniqueFragmentNames = 3
rule_number rule.KnownFragmentNames = 4
rule_number rule.NoFragmentCycles = 5
rule_number rule.UniqueVariableNames = 6
rule_number rule.UniqueArgumentNames = 7
rule_number rule.UniqueInputFieldNames = 8
rule_number rule.KnownDirectives = 9
rule_number rule.KnownTypeNames = 10
rule_number rule.FragmentsOnCompositeTypes = 11
rule_number rule.VariablesAreInputTypes = 12
rule_number rule.FieldsOnCorrectType = 13
rule_number rule.ScalarLeafs = 14
rule_number rule.KnownArgumentNames = 15
rule_number rule.ProvidedNonNullArguments = 16
rule_number rule.ArgumentsOfCorrectType = 17
rule_number rule.DefaultValuesOfCorrectType = 18
rule_number rule.NoUndefinedVariables = 19
rule_number rule.VariablesInAllowedPosition = 20
rule_number rule.OverlappingFieldsCanBeMerged = 21
rule_number rule.DisableIntrospection = 22

-- an explanation of a node, as an error: its text, its place, and the rule with its number
abbrev pub of_explanation : Explanation → Refusal
of_explanation e = record {
  message = e.text;
  place = Some e.place;
  rule = Some (record { text = rule_text e.rule; number = Some (rule_number e.rule) });
}

-- the text of an error, as what is broken
abbrev pub of_listed : RuleError → BrokenRule
of_listed e = record { text = e.message; number = None }

-- the first of these errors that is listed at a place
unfoldable pub listed_at : List RuleError → Position → Option BrokenRule
listed_at errors p = option_map of_listed (find (λ e. same_position e.start p) errors)

-- an explanation of a given value, as an error: its text, its place, which is the definition of its variable, and the error that is listed there
abbrev pub of_value : List RuleError → VariableExplanation → Refusal
of_value errors e = record { message = e.text; place = Some e.place; rule = listed_at errors e.place }

-- nothing is explained of a text that has more bytes than that, or where introspection is disabled: explanations name what a schema has
abbrev pub is_left_out : Bool → ℕ → Text → Bool
is_left_out disabled most text = disabled || nat_lt most (length text)

-- why given values do not fit the variables of the operation that is chosen, for which these errors are listed (6.1.2)
unfoldable pub misfits : Schema → Variables → List RuleError → Choice → List Refusal
misfits s given errors (chosen o) = map (of_value errors) (variable_explanations s (variables_of o) given)
misfits s given errors many = []
misfits s given errors unknown = []

-- the first of a document that is valid, else the second
unfoldable pub where_valid : List RuleError → List Refusal → List Refusal → List Refusal
where_valid [] valid invalid = valid
where_valid (e ∷ es) valid invalid = invalid

module _ (s : Schema) (disabled : Bool) (most : ℕ) where
  -- each node of a document that violates a rule (5)
  unfoldable pub nodes_explained : Text → Document → List Refusal
  nodes_explained text d = cond (is_left_out disabled most text) [] (map of_explanation (explanations s disabled d))

  module _ (q : Request) where
    -- why the values that a request gives do not fit, for which these errors are listed
    unfoldable pub values_explained : List RuleError → Document → List Refusal
    values_explained errors d = cond (is_left_out disabled most q.text) [] (misfits s q.variables errors (choose d q.operation))

    -- what explains that a request is not valid, for which these errors are listed: of a valid document its values, else its nodes
    unfoldable pub explained_as : List RuleError → Document → List Refusal
    explained_as errors d = where_valid (rule_errors s disabled d) (values_explained errors d) (nodes_explained q.text d)

    -- the line tells what explains that the document or the given values are not valid, and where nothing does, the errors of the refusal
    abbrev pub TellsRefusal : RequestError → Text → Type 0
    TellsRefusal (not_valid es) line =
        (d : Document) × Reads q.text (Some d) × (line ≡ explained_text (refusals_of (not_valid es)) (explained_as es d))
    TellsRefusal e line = line ≡ refusals_text (refusals_of e)

-- no rule is broken, and the values that are given fit the operation that is chosen (5, 6.1.2)
abbrev pub IsFaultless : Schema → Bool → Request → Document → Type 0
IsFaultless s disabled q d =
    (rule_errors s disabled d ≡ []) × ((o : Operation) → choose d q.operation ≡ chosen o → variable_errors s (variables_of o) q.variables ≡ [])
