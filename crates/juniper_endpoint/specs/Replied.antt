-- What is replied to a request over a root, within bounds (6.1, 7.1; "GraphQL over HTTP", status codes).
use Rattle.std.specs.Prelude.{◌≡◌, ◌≢◌, ◌⊎◌, ◌≤◌, ℕ, Bool, false, List, [], length, map, filter, Option, Some, None}
use Rattle.std.specs.List.{list_any}
use Rattle.std.specs.Str.{bytes_eq}
use Rattle.graphql_spec.specs.Documents.{Document, Operation, VariableDefinition, mutation, variables_of}
use Rattle.graphql_spec.specs.Errors.{Listed}
use Rattle.graphql_spec.specs.Inputs.{Variables}
use Rattle.graphql_spec.specs.Outcomes.{Reads, Request, Service, Response, out_of_memory, refuses, responds}
use Rattle.graphql_spec.specs.Requests.{Refusal, choose, chosen, no_fitting_value}
use Rattle.graphql_spec.specs.Rules.{RuleError}
use Rattle.graphql_spec.specs.Shown.{Name, Text}
use Rattle.graphql_spec.specs.Values.{Value}
use Rattle.juniper.specs.Answering.{refusal_of}
use Rattle.juniper.specs.Budgets.{IsSpentOnly, RunsOver, within_text}
use Rattle.juniper.specs.Objections.{IsAccepted, IsWithin, Objects, objection_text}
use Rattle.juniper.specs.Promised.{IsFullOutcome}
use Rattle.juniper.specs.RequestErrors.{RequestError, not_valid}
use Rattle.juniper.specs.declared.budget.Within.TheVariants.{Spent}
use Rattle.juniper.specs.declared.prepared.Bounds.{Bounds}
use Rattle.juniper.specs.declared.prepared.Objection.{Objection}
use Rattle.juniper.specs.declared.prepared.Objection.TheVariants as objection
use Rattle.juniper_http.specs.declared.outcome.Outcome.{Outcome}
use Rattle.juniper_http.specs.declared.outcome.Outcome.TheVariants.{Executed, Refused, Writes, OutOfMemory}
use Rattle.juniper_json.specs.AnswerText.{answer_text}
use Rattle.juniper_json.specs.Each.{given_of, refused_in}
use Rattle.juniper_json.specs.Refusals.{refusals_of}
use Rattle.juniper_json.specs.RefusalText.{refusals_text}
use Rattle.juniper_json.specs.declared.read.VariablesError.{VariablesError}
use Rattle.juniper_request.specs.Requests.{Asked}
use Rattle.juniper_walk.specs.Budget.{fields_in, most_fields}
use Rattle.serde_json.specs.Data.{Members}
use Rattle.juniper_endpoint.specs.Explained.{TellsRefusal}
use Rattle.juniper_endpoint.specs.Lines.{bare_line, writes_text}

-- ## The values of variables (6.1.2)

-- the values that are given; those that are refused are left out
abbrev pub given_among : Option Members → Variables
given_among None n = None
given_among (Some ms) n = given_of ms n

-- the names whose values are refused
abbrev pub refused_among : Option Members → List (Name × VariablesError)
refused_among None = []
refused_among (Some ms) = refused_in ms

-- the value that is given for this variable is refused
abbrev pub is_refused : List (Name × VariablesError) → VariableDefinition → Bool
is_refused refused v = list_any (λ r. bytes_eq v.name.item r.0) refused

-- the error of a variable without a fitting value
abbrev pub unfitting : VariableDefinition → RuleError
unfitting v = record { message = no_fitting_value v.name.item; start = v.name.span.start }

-- a value that is refused fits no type: an error for each definition of a variable for which one is given
unfoldable pub refused_errors : List (Name × VariablesError) → List VariableDefinition → List RuleError
refused_errors refused vs = map unfitting (filter (is_refused refused) vs)

-- an operation that may be executed: it is no mutation where the request may not write, and no value is refused that is given for a
-- variable of it
abbrev pub IsFree : List (Name × VariablesError) → Bool → Operation → Type 0
IsFree refused may_write o = (may_write ≡ false → o.kind ≢ mutation) × (refused_errors refused (variables_of o) ≡ [])

-- ## Replies

-- what is asked, as a request
abbrev pub request_asked : Asked → Request
request_asked a = record { text = a.query; operation = a.operation_name; variables = given_among a.variables }

-- one of the server's own bounds is passed
abbrev pub IsOwn : Objection → Type 0
IsOwn objection.TooLong = Unit {0}
IsOwn objection.TooManyFields = Unit {0}
IsOwn objection.TooDeep = Unit {0}
IsOwn (objection.Refused e) = ⊥

module _ {C N : Type 0} (S : Service C N) (b : Bounds) (a : Asked) where
  -- the text is that of a valid document within the bounds
  abbrev pub IsTaken : Document → Type 0
  IsTaken d = IsAccepted b a.query S.schema S.introspection_disabled d

  -- and this is the operation that is executed (GetOperation, 6.1)
  abbrev pub Chooses : Document → Operation → Type 0
  Chooses d o = IsTaken d × (choose d a.operation_name ≡ chosen o)

  -- the document is taken, and whatever operation is executed is free
  abbrev pub MayRun : Bool → Type 0
  MayRun may_write = (d : Document) × IsTaken d × ((o : Operation) → choose d a.operation_name ≡ chosen o → IsFree (refused_among a.variables) may_write o)

  -- the text is not too long, and what it is read as passes no bound
  abbrev pub KeepsBounds : Type 0
  KeepsBounds = (length a.query ≤ b.bytes) × ((d : Document) → Reads a.query (Some d) → IsWithin b a.query d)

  -- a bound is passed, which the line names
  abbrev pub IsPastBounds : Text → Type 0
  IsPastBounds line = (e : Objection) × IsOwn e × Objects b a.query S.schema S.introspection_disabled e × (line ≡ bare_line (objection_text e))

  -- a value that is refused is given for a variable of the operation, and the line names each such variable
  abbrev pub IsUnfitting : Text → Type 0
  IsUnfitting line = (d : Document) × (o : Operation) × Chooses d o × (refused_errors (refused_among a.variables) (variables_of o) ≢ [])
      × (line ≡ refusals_text (refusals_of (not_valid (refused_errors (refused_among a.variables) (variables_of o)))))

  -- the operation is a mutation
  abbrev pub IsMutation : Type 0
  IsMutation = (d : Document) × (o : Operation) × Chooses d o × (o.kind ≡ mutation)

  -- of texts with more bytes than `most` nothing is explained
  module _ (most : ℕ) (may_write : Bool) (c : C) where
    -- the executor refuses the request, whose text passes no bound, by its first step that fails, and the line tells its errors and what
    -- explains them (6.1, 7.1)
    abbrev pub IsRefused : Text → C → Type 0
    IsRefused line after = KeepsBounds × ((e : RequestError) × (r : Refusal) × (refusal_of e ≡ Some r)
        × IsFullOutcome S (request_asked a) c (refuses r) after × TellsRefusal S.schema S.introspection_disabled most (request_asked a) e line)

    -- an operation runs that enters more fields than a budget that is given, and the line says so; the context is as want of memory
    -- leaves it
    abbrev pub IsSpent : Option ℕ → Text → C → Type 0
    IsSpent fields line after = MayRun may_write × IsSpentOnly fields (RunsOver S (request_asked a) c) Spent
        × IsFullOutcome S (request_asked a) c out_of_memory after × (line ≡ bare_line (within_text Spent))

    -- What is replied where at most so many fields are entered, if a budget is given, and the context after. Where it is executed, the line is
    -- the text of the response that the Specification's execution has (7.1), with no more fields. Else the context is as it was, but where the
    -- budget is spent, and but for want of memory, which may stand in place of each and leave what it leaves.
    abbrev pub Replies : Option ℕ → Outcome → Text → C → Type 0
    Replies fields Executed line after =
        MayRun may_write
        × ((value : Value) × (es : List Listed) × IsFullOutcome S (request_asked a) c (responds value es) after × (line ≡ answer_text value es)
        × (fields_in value ≤ most_fields fields))
    Replies fields Refused line after = IsRefused line after ⊎ (((after ≡ c) × (IsPastBounds line ⊎ IsUnfitting line)) ⊎ IsSpent fields line after)
    Replies fields Writes line after = (after ≡ c) × (may_write ≡ false) × IsMutation × (line ≡ bare_line writes_text)
    Replies fields OutOfMemory line after = (after ≡ c) ⊎ (MayRun may_write × ((r : Response) × IsFullOutcome S (request_asked a) c r after))
