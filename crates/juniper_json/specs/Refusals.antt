-- The errors that a response shows of a request that has no answer (7.1.2).
use Rattle.std.specs.Prelude.{List, [], ◌∷◌, map, Some, None}
use Rattle.graphql_spec.specs.Rules.{RuleError}
use Rattle.juniper_syntax.specs.Refusals as parser
use Rattle.juniper.specs.RequestErrors.{RequestError, request_error_text, not_parsed, not_valid, no_operation, multiple_operations, unknown_operation}
use Rattle.juniper.specs.RequestErrors.{is_subscription, not_subscription, no_mutation_type, variable_not_constant, out_of_memory}
use Rattle.juniper_json.specs.RefusalText.{Refusal}

-- the error of a rule, with its place (5)
abbrev pub rule_refusal : RuleError → Refusal
rule_refusal e = record { message = e.message; place = Some e.start; rule = None }

-- an error of no place
abbrev pub unplaced : RequestError → List Refusal
unplaced e = record { message = request_error_text e; place = None; rule = None } ∷ []

-- one error, of validation one for each rule that is broken
abbrev pub refusals_of : RequestError → List Refusal
refusals_of (not_parsed e) = record { message = parser.refusal_text e.item; place = Some e.span.start; rule = None } ∷ []
refusals_of (not_valid es) = map rule_refusal es
refusals_of no_operation = unplaced no_operation
refusals_of multiple_operations = unplaced multiple_operations
refusals_of unknown_operation = unplaced unknown_operation
refusals_of is_subscription = unplaced is_subscription
refusals_of not_subscription = unplaced not_subscription
refusals_of no_mutation_type = unplaced no_mutation_type
refusals_of (variable_not_constant n) = unplaced (variable_not_constant n)
refusals_of out_of_memory = unplaced out_of_memory
