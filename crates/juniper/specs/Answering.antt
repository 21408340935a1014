-- What a request is answered (6.1).
use Rattle.std.specs.Prelude.{◌≡◌, ◌⊎◌, Bool, List, [], ◌∷◌, MatchResult, Option, Some, None, Result, Ok, Err, String, Vec, map, option_map}
use Rattle.std.specs.Borrow.{Bor}
use Rattle.std.specs.HashMap.{HashMap}
use Rattle.std.specs.declared.alloc.Global.{Global}
use Rattle.std.specs.declared.hash.BuildHasherDefault.{BuildHasherDefault}
use Rattle.std.specs.declared.hash.FoldHasher.{FoldHasher}
use Rattle.graphql_spec.specs.Shown.{Shown, Name, Text}
use Rattle.graphql_spec.specs.Inputs.{Variables}
use Rattle.graphql_spec.specs.Documents.{Document, Operation, variables_of}
use Rattle.graphql_spec.specs.Schema.{Schema}
use Rattle.graphql_spec.specs.Rules.{RuleError, rule_errors}
use Rattle.graphql_spec.specs.Requests as spec
use Rattle.graphql_spec.specs.Requests.{Choice, chosen, many, unknown, Refusal, Outcome, runs, of_kind}
use Rattle.graphql_spec.specs.Requests.{variable_errors, first_not_constant, coerced_variables}
use Rattle.graphql_spec.specs.Outcomes as outcome
use Rattle.graphql_spec.specs.Outcomes.{Request, Response, refuses, responds}
use Rattle.juniper_syntax.specs.DocumentView.{view_document, view_operation}
use Rattle.juniper_syntax.specs.InputView.{view_variables}
use Rattle.juniper_syntax.specs.ValueView.{view_value}
use Rattle.juniper_syntax.specs.declared.ast.Definition.{Definition}
use Rattle.juniper_syntax.specs.declared.ast.Operation.{Operation as CodeOperation}
use Rattle.juniper_syntax.specs.declared.input.InputValue.{InputValue}
use Rattle.juniper_syntax.specs.declared.position.Span.{Span}
use Rattle.juniper_syntax.specs.declared.position.Spanning.{Spanning}
use Rattle.juniper_syntax.specs.declared.value.Value.{Value}
use Rattle.juniper_conversions.specs.ErrorView.{view_listed}
use Rattle.juniper_syntax.specs.Refusals as parser
use Rattle.juniper_syntax.specs.Refusals.{Refusal as ParseRefusal}
use Rattle.juniper_conversions.specs.declared.execution_error.ExecutionError.{ExecutionError}
use Rattle.juniper.specs.declared.error.GraphQLError.{GraphQLError}
use Rattle.juniper.specs.RequestErrors.{RequestError, view_request_error, not_parsed, not_valid, no_operation, multiple_operations, unknown_operation}
use Rattle.juniper.specs.RequestErrors.{is_subscription, not_subscription, no_mutation_type, variable_not_constant, out_of_memory}

-- the refusal that an error of the parser stands for: none where memory was wanting
abbrev pub parse_refusal : ParseRefusal → Option Refusal
parse_refusal (parser.lexical f) = Some spec.not_parsed
parse_refusal parser.unexpected_token = Some spec.not_parsed
parse_refusal parser.unexpected_end = Some spec.not_parsed
parse_refusal parser.float_literal = Some spec.not_parsed
parse_refusal parser.block_string = Some spec.not_parsed
parse_refusal parser.too_deep = Some spec.not_parsed
parse_refusal parser.out_of_memory = None

-- the refusal that an error stands for; two are never made
abbrev pub refusal_of : RequestError → Option Refusal
refusal_of (not_parsed e) = parse_refusal e.item
refusal_of (not_valid es) = Some (spec.not_valid es)
refusal_of no_operation = None
refusal_of multiple_operations = Some spec.multiple_operations
refusal_of unknown_operation = Some spec.unknown_operation
refusal_of is_subscription = Some spec.is_subscription
refusal_of not_subscription = None
refusal_of no_mutation_type = Some spec.no_mutation_type
refusal_of (variable_not_constant n) = Some (spec.variable_not_constant n)
refusal_of out_of_memory = None

-- an error as a response: its refusal, or want of memory
abbrev pub Responds : (Response → Type 0) → RequestError → Type 0
Responds P out_of_memory = P outcome.out_of_memory
Responds P e = (r : Refusal) × (refusal_of e ≡ Some r) × P (refuses r)

-- what a call answers, as a response
abbrev pub AnswersAs : {S : Type 0} → (S → Shown) → (Response → Type 0) → Result (Value S × Vec (ExecutionError S) Global) GraphQLError → Type 0
AnswersAs shown P (Ok p) = P (responds (view_value shown p.0) (map (view_listed shown) p.1.items))
AnswersAs shown P (Err e) = Responds P (view_request_error e)

-- a request of this text, this name of an operation, if one is given, and these values of variables (6.1)
abbrev pub request_of : {S : Type 0} → (S → Shown) → Text → Option (Bor Text) → HashMap (String Global) (InputValue S) (BuildHasherDefault FoldHasher) → Request
request_of shown text name given = record { text = text; operation = option_map (λ n. n.now) name; variables = view_variables shown given }

-- an error that stands for one of these refusals, or want of memory
abbrev pub StandsFor : (Refusal → Type 0) → RequestError → Type 0
StandsFor P out_of_memory = Unit {0}
StandsFor P e = (r : Refusal) × (refusal_of e ≡ Some r) × P r

-- why no operation is chosen (GetOperation, 6.1)
abbrev pub IsUnchosen : Choice → RequestError → Type 0
IsUnchosen (chosen o) e = ⊥
IsUnchosen many e = e ≡ multiple_operations
IsUnchosen unknown e = e ≡ unknown_operation

-- what becomes of an operation of a valid document with these given values, which fit and are constant: its kind decides (6.1)
abbrev pub outcome_of : Schema → Document → Operation → Variables → Outcome
outcome_of s d o given = of_kind s o.kind (runs d o (coerced_variables (variables_of o) given))

-- the same of a document, an operation and given values as code has them
abbrev pub outcome_in : {S H : Type 0} → (S → Shown) → Schema → Vec (Definition S) Global → Spanning (CodeOperation S) Span →
    HashMap (String Global) (InputValue S) H → Outcome
outcome_in shown s d o given = outcome_of s (view_document shown d) (view_operation shown o) (view_variables shown given)

-- the given values fit, and no variable stands in them (6.1.2)
pub record AreCoercible (s : Schema) (o : Operation) (given : Variables) : Type 0 where
  pub fitting : variable_errors s (variables_of o) given ≡ []
  pub constant : first_not_constant (variables_of o) given ≡ None

-- why the given values are refused (6.1.2)
abbrev pub AreRefused : Schema → Operation → Variables → Refusal → Type 0
AreRefused s o given r =
    ((e : RuleError) × (es : List RuleError) × (r ≡ spec.not_valid (e ∷ es)) × (variable_errors s (variables_of o) given ≡ e ∷ es))
    ⊎ ((variable_errors s (variables_of o) given ≡ [])
    × ((n : Name) × (r ≡ spec.variable_not_constant n) × (first_not_constant (variables_of o) given ≡ Some n)))

-- a call lets given values pass that fit and hold no variables, and tells why others are refused (6.1.2)
abbrev pub PassesCoercible : {A : Type 0} → Schema → Operation → Variables → Result A GraphQLError → Type 0
PassesCoercible s o given result = MatchResult result (λ _. AreCoercible s o given) (λ e. StandsFor (AreRefused s o given) (view_request_error e))

-- ## Only private clauses cite what follows

-- why a document is not valid (5)
abbrev pub IsInvalid : Schema → Bool → Document → Refusal → Type 0
IsInvalid s disabled d r = (e : RuleError) × (es : List RuleError) × (r ≡ spec.not_valid (e ∷ es)) × (rule_errors s disabled d ≡ e ∷ es)
