-- The lines of replies.
use Rattle.std.specs.Prelude.{◌≡◌, ◌⊎◌, ◌++◌, map, codes, string_bytes, Result, Ok, Err, Vec}
use Rattle.std.specs.declared.alloc.Global.{Global}
use Rattle.graphql_spec.specs.Shown.{Text}
use Rattle.juniper.specs.RequestErrors as why
use Rattle.juniper.specs.RequestErrors.{RequestError, view_request_error}
use Rattle.juniper.specs.declared.error.GraphQLError.{GraphQLError}
use Rattle.juniper_conversions.specs.ErrorView.{view_listed}
use Rattle.juniper_conversions.specs.declared.execution_error.ExecutionError.{ExecutionError}
use Rattle.juniper_http.specs.declared.endpoint.Reply.{Reply}
use Rattle.juniper_http.specs.declared.outcome.Outcome.{Outcome}
use Rattle.juniper_http.specs.declared.outcome.Outcome.TheVariants.{Executed, Refused, OutOfMemory}
use Rattle.juniper_json.specs.AnswerText.{answer_text}
use Rattle.juniper_json.specs.Refusals.{refusals_of}
use Rattle.juniper_json.specs.RefusalText.{refusals_text}
use Rattle.juniper_syntax.specs.Scalars.{default_shown}
use Rattle.juniper_syntax.specs.ValueView.{view_value}
use Rattle.juniper_syntax.specs.declared.scalar.DefaultScalarValue.{DefaultScalarValue}
use Rattle.juniper_syntax.specs.declared.value.Value.{Value}

-- errors with this message alone, which holds nothing to escape
abbrev pub bare_line : Text → Text
bare_line message = codes "{\"errors\":[{\"message\":\"" ++ message ++ codes "\"}]}"

-- what is told of a mutation that a request may not ask
abbrev pub writes_text : Text
writes_text = codes "A mutation is asked for by POST"

-- a reply that says so, or that memory is refused
abbrev pub IsTold : Outcome → Text → Reply → Type 0
IsTold outcome line reply = ((reply.outcome ≡ outcome) × (string_bytes reply.line ≡ line)) ⊎ (reply.outcome ≡ OutOfMemory)

-- what an error of a request is as an outcome
abbrev pub refused_outcome : RequestError → Outcome
refused_outcome (why.not_parsed e) = Refused
refused_outcome (why.not_valid es) = Refused
refused_outcome why.no_operation = Refused
refused_outcome why.multiple_operations = Refused
refused_outcome why.unknown_operation = Refused
refused_outcome why.is_subscription = Refused
refused_outcome why.not_subscription = Refused
refused_outcome why.no_mutation_type = Refused
refused_outcome (why.variable_not_constant n) = Refused
refused_outcome why.out_of_memory = OutOfMemory

-- what a call of the executor answers, as an outcome
abbrev pub outcome_of : Result (Value DefaultScalarValue × Vec (ExecutionError DefaultScalarValue) Global) GraphQLError → Outcome
outcome_of (Ok p) = Executed
outcome_of (Err e) = refused_outcome (view_request_error e)

-- and as a text (7.1)
abbrev pub outcome_text : Result (Value DefaultScalarValue × Vec (ExecutionError DefaultScalarValue) Global) GraphQLError → Text
outcome_text (Ok p) = answer_text (view_value default_shown p.0) (map (view_listed default_shown) p.1.items)
outcome_text (Err e) = refusals_text (refusals_of (view_request_error e))
