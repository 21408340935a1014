-- What a look at a request shows, and what its values and its text are found to be. Only private clauses cite these words.
use Rattle.std.specs.Prelude.{◌≡◌, ◌≢◌, ◌⊎◌, ℕ, Bool, false, List, [], map, string_bytes, Option, Result, Ok, Err, Vec}
use Rattle.std.specs.declared.alloc.Global.{Global}
use Rattle.graphql_spec.specs.Documents.{Document, Operation, mutation, variables_of}
use Rattle.graphql_spec.specs.Outcomes.{Request, Service}
use Rattle.graphql_spec.specs.Requests.{choose, chosen}
use Rattle.graphql_spec.specs.Rules.{RuleError}
use Rattle.graphql_spec.specs.Schema.{Schema}
use Rattle.graphql_spec.specs.Shown.{Name, Text}
use Rattle.juniper.specs.Objections.{objection_text}
use Rattle.juniper.specs.RequestErrors.{RequestError, not_valid, view_request_error}
use Rattle.juniper.specs.Budgets.{within_text}
use Rattle.juniper.specs.declared.budget.Within.{Within}
use Rattle.juniper.specs.declared.budget.Within.TheVariants as within
use Rattle.juniper.specs.declared.prepared.Bounds.{Bounds}
use Rattle.juniper.specs.declared.prepared.Objection.{Objection}
use Rattle.juniper.specs.declared.prepared.Objection.TheVariants as objection
use Rattle.juniper_conversions.specs.declared.execution_error.ExecutionError.{ExecutionError}
use Rattle.juniper_http.specs.declared.endpoint.Reply.{Reply}
use Rattle.juniper_http.specs.declared.outcome.Outcome.TheVariants as outcome
use Rattle.juniper_json.specs.Each.{view_refused}
use Rattle.juniper_json.specs.Refusals.{refusals_of}
use Rattle.juniper_json.specs.RefusalText.{Refusal, explained_text, refusals_text}
use Rattle.juniper_json.specs.declared.given.GivenVariables.{GivenVariables}
use Rattle.juniper_json.specs.declared.read.VariablesError.{VariablesError}
use Rattle.juniper_request.specs.Requests.{Asked}
use Rattle.juniper_schema.specs.SchemaView.{view_schema}
use Rattle.juniper_syntax.specs.RuleView.{view_rule_error}
use Rattle.juniper_syntax.specs.InputView.{view_variables}
use Rattle.juniper_syntax.specs.Scalars.{default_shown}
use Rattle.juniper_syntax.specs.declared.scalar.DefaultScalarValue.{DefaultScalarValue}
use Rattle.juniper_syntax.specs.declared.value.Value.{Value}
use Rattle.serde_json.specs.Data.{Members}
use Rattle.juniper_endpoint.specs.Explained.{nodes_explained, values_explained}
use Rattle.juniper_endpoint.specs.Lines.{IsTold, bare_line, outcome_of, outcome_text, refused_outcome}
use Rattle.juniper_endpoint.specs.Replied.{IsFree, IsTaken, Replies, given_among, refused_among, refused_errors}
use Rattle.juniper_endpoint.specs.declared.explained.Explainer.{Explainer}
use Rattle.juniper_endpoint.specs.declared.look.Finding.{Finding}
use Rattle.juniper_endpoint.specs.declared.look.Finding.TheVariants.{Passes, Writes, Unfitting}

-- the values that are given, and those that are refused
abbrev pub IsGivenBy : Option Members → GivenVariables → Type 0
IsGivenBy ms given = (view_variables default_shown given.values ≡ given_among ms) × (map view_refused given.refused.items ≡ refused_among ms)

module _ (refused : List (Name × VariablesError)) (may_write : Bool) where
  -- what is seen of the operation that is to be executed
  abbrev pub IsSeenIn : Operation → Finding → Type 0
  IsSeenIn o Passes = IsFree refused may_write o
  IsSeenIn o Writes = (may_write ≡ false) × (o.kind ≡ mutation)
  IsSeenIn o (Unfitting errors) =
      (refused_errors refused (variables_of o) ≢ []) × (map view_rule_error errors.items ≡ refused_errors refused (variables_of o))

  -- what is seen of a document whose operation of this name is to be executed
  abbrev pub IsSeen : Option Name → Document → Finding → Type 0
  IsSeen name d Passes = (o : Operation) → choose d name ≡ chosen o → IsSeenIn o Passes
  IsSeen name d Writes = (o : Operation) × (choose d name ≡ chosen o) × IsSeenIn o Writes
  IsSeen name d (Unfitting errors) = (o : Operation) × (choose d name ≡ chosen o) × IsSeenIn o (Unfitting errors)

-- what is told of what is against reading a text
abbrev pub IsObjected : Objection → Reply → Type 0
IsObjected objection.TooLong reply = IsTold outcome.Refused (bare_line (objection_text objection.TooLong)) reply
IsObjected objection.TooManyFields reply = IsTold outcome.Refused (bare_line (objection_text objection.TooManyFields)) reply
IsObjected objection.TooDeep reply = IsTold outcome.Refused (bare_line (objection_text objection.TooDeep)) reply
IsObjected (objection.Refused e) reply = IsTold (refused_outcome (view_request_error e)) (refusals_text (refusals_of (view_request_error e))) reply

-- what is told of a document that is not valid: each node that violates a rule, and these errors where no node is explained
abbrev pub IsInvalidTold : Schema → Bool → ℕ → Text → List RuleError → Document → Reply → Type 0
IsInvalidTold s disabled most text errors d reply =
    IsTold outcome.Refused (explained_text (refusals_of (not_valid errors)) (nodes_explained s disabled most text d)) reply

-- what explains an error, which is so, is told, or the error itself where nothing does; or that memory is refused
abbrev pub IsToldWith : (List Refusal → Type 0) → RequestError → Reply → Type 0
IsToldWith P e reply =
    ((es : List Refusal) × P es × IsTold (refused_outcome e) (explained_text (refusals_of e) es) reply) ⊎ (reply.outcome ≡ outcome.OutOfMemory)

module _ (s : Schema) (disabled : Bool) (most : ℕ) (q : Request) (d : Document) where
  -- what is found that explains an error of the request of this valid document: that given values do not fit, why
  abbrev pub AreMisfits : RequestError → List Refusal → Type 0
  AreMisfits (not_valid errors) es = es ≡ values_explained s disabled most q errors d
  AreMisfits e es = es ≡ []

  -- what is told of such an error
  abbrev pub IsMisfitTold : RequestError → Reply → Type 0
  IsMisfitTold e reply = IsToldWith (AreMisfits e) e reply

  -- what is told of a request that has no answer
  abbrev pub IsStopTold : Within → Reply → Type 0
  IsStopTold (within.Refused e) reply = IsMisfitTold (view_request_error e) reply
  IsStopTold within.Spent reply = IsTold outcome.Refused (bare_line (within_text within.Spent)) reply

  -- what is told of what the executor answers
  abbrev pub IsAnswerTold : Result (Value DefaultScalarValue × Vec (ExecutionError DefaultScalarValue) Global) Within → Reply → Type 0
  IsAnswerTold (Ok p) reply = IsTold (outcome_of (Ok p)) (outcome_text (Ok p)) reply
  IsAnswerTold (Err w) reply = IsStopTold w reply

-- what explains that the values of a request do not fit, by what explains texts
abbrev pub AreMisfitsBy : Explainer → Request → Document → RequestError → List Refusal → Type 0
AreMisfitsBy x q d e rs = AreMisfits (view_schema default_shown x.schema.now) x.is_introspection_disabled x.most_bytes q d e rs

-- it explains what is refused on this service
abbrev pub ExplainsFor : {C N : Type 0} → Service C N → Explainer → Type 0
ExplainsFor S e = (view_schema default_shown e.schema.now ≡ S.schema) × (e.is_introspection_disabled ≡ S.introspection_disabled)

-- what is replied to what is asked of a valid document, whatever the bounds within which it was taken
abbrev pub RepliesValid : {C N : Type 0} → Service C N → Explainer → Asked → Document → Bool → Option ℕ → C → Reply → C → Type 0
RepliesValid S e a d may_write fields c reply after = (b : Bounds) → ExplainsFor S e → IsTaken S b a d →
    Replies S b a e.most_bytes may_write c fields reply.outcome (string_bytes reply.line) after
