-- Why a request has no answer (7.1.2), and how that is shown.
use Rattle.std.specs.Prelude.{List, codes, ◌++◌, map, string_bytes}
use Rattle.std.specs.List.{join_with_byte}
use Rattle.graphql_spec.specs.Shown.{Text, Name}
use Rattle.graphql_spec.specs.Positions.{Spanned}
use Rattle.graphql_spec.specs.Rules.{RuleError}
use Rattle.juniper_syntax.specs.Positions.{view_spanning}
use Rattle.juniper_syntax.specs.Refusals.{Refusal, view_refusal, refusal_text}
use Rattle.juniper_syntax.specs.declared.error.ParseError.{ParseError}
use Rattle.juniper_syntax.specs.declared.error.ParseError.TheVariants as parser
use Rattle.juniper_syntax.specs.declared.position.Span.{Span}
use Rattle.juniper_syntax.specs.declared.position.Spanning.{Spanning}
use Rattle.juniper.specs.declared.error.GraphQLError.{GraphQLError}
use Rattle.juniper.specs.declared.error.GraphQLError.TheVariants as code
use Rattle.juniper_syntax.specs.RuleView.{view_rule_error}

pub data RequestError : Type 0 where
  not_parsed : Spanned Refusal → RequestError
  not_valid : List RuleError → RequestError
  no_operation : RequestError
  multiple_operations : RequestError
  unknown_operation : RequestError
  is_subscription : RequestError
  not_subscription : RequestError
  no_mutation_type : RequestError
  variable_not_constant : Name → RequestError
  out_of_memory : RequestError

abbrev pub view_request_error : GraphQLError → RequestError
view_request_error (code.ParseError e) = not_parsed (view_spanning view_refusal e)
view_request_error (code.ValidationError es) = not_valid (map view_rule_error es.items)
view_request_error code.NoOperationProvided = no_operation
view_request_error code.MultipleOperationsProvided = multiple_operations
view_request_error code.UnknownOperationName = unknown_operation
view_request_error code.IsSubscription = is_subscription
view_request_error code.NotSubscription = not_subscription
view_request_error code.MutationNotSupported = no_mutation_type
view_request_error (code.VariableNotConstant n) = variable_not_constant (string_bytes n)
view_request_error code.OutOfMemory = out_of_memory

-- the messages, with a line feed between each two
abbrev pub messages_text : List RuleError → Text
messages_text es = join_with_byte 10 (map (λ e. e.message) es)

-- the texts that are shown
abbrev pub request_error_text : RequestError → Text
request_error_text (not_parsed e) = refusal_text e.item
request_error_text (not_valid es) = messages_text es
request_error_text no_operation = codes "No operation provided"
request_error_text multiple_operations = codes "Multiple operations provided"
request_error_text unknown_operation = codes "Unknown operation name"
request_error_text is_subscription = codes "Operation is a subscription"
request_error_text not_subscription = codes "Operation is not a subscription"
request_error_text no_mutation_type = codes "Mutations are not supported"
request_error_text (variable_not_constant n) = codes "Variable `$" ++ n ++ codes "` holds a variable"
request_error_text out_of_memory = codes "Out of memory"

-- what an error of the parser becomes: want of memory is no fault of the text
abbrev pub of_parse_error : Spanning ParseError Span → GraphQLError
of_parse_error e = elim e.item [ parser.Memory ↦ code.OutOfMemory | _ ↦ code.ParseError e ]
