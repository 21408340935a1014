-- What a request within a budget of fields is answered (6.1).
use Rattle.std.specs.Prelude.{◌≡◌, ◌<◌, ℕ, Option, Some, Result, Ok, Err, Vec, codes, map}
use Rattle.std.specs.declared.alloc.Global.{Global}
use Rattle.graphql_spec.specs.Outcomes as outcome
use Rattle.graphql_spec.specs.Documents.{Document, Operation, OperationType, query, mutation, subscription}
use Rattle.graphql_spec.specs.Inputs.{Variables}
use Rattle.graphql_spec.specs.Outcomes.{Becomes, HasMutation, Request, Response, Service, Steps, mutation_in, responds, world_in}
use Rattle.graphql_spec.specs.Requests.{Outcome, runs, selected}
use Rattle.graphql_spec.specs.Selections.{Forest}
use Rattle.graphql_spec.specs.Shown.{Name, Shown, Text}
use Rattle.juniper_conversions.specs.ErrorView.{view_listed}
use Rattle.juniper_conversions.specs.declared.execution_error.ExecutionError.{ExecutionError}
use Rattle.juniper_syntax.specs.ValueView.{view_value}
use Rattle.juniper_syntax.specs.declared.value.Value.{Value}
use Rattle.juniper_walk.specs.Entered.{entered}
use Rattle.juniper_walk.specs.declared.walked.Stop.{Stop}
use Rattle.juniper_walk.specs.declared.walked.Stop.TheVariants as stops
use Rattle.juniper_execute.specs.Entered.{entered_run}
use Rattle.juniper.specs.Answering.{Responds}
use Rattle.juniper.specs.RequestErrors.{request_error_text, view_request_error}
use Rattle.juniper.specs.declared.budget.Within.{Within}
use Rattle.juniper.specs.declared.budget.Within.TheVariants.{Refused, Spent}
use Rattle.juniper.specs.declared.error.GraphQLError.{GraphQLError}
use Rattle.juniper.specs.declared.error.GraphQLError.TheVariants as gives

-- why there is no answer, as a response: a budget that is spent leaves what want of memory leaves
abbrev pub RefusesWithin : (Response → Type 0) → Within → Type 0
RefusesWithin P (Refused e) = Responds P (view_request_error e)
RefusesWithin P Spent = P outcome.out_of_memory

-- what a call within a budget answers, as a response
abbrev pub AnswersWithin : {S : Type 0} → (S → Shown) → (Response → Type 0) → Result (Value S × Vec (ExecutionError S) Global) Within → Type 0
AnswersWithin shown P (Ok p) = P (responds (view_value shown p.0) (map (view_listed shown) p.1.items))
AnswersWithin shown P (Err w) = RefusesWithin P w

module _ {C N : Type 0} (S : Service C N) where
  -- an operation of this kind enters more fields than n: its root's response keys, those of each object below, whatever a null takes away (6.2)
  abbrev pub EntersMore : OperationType → Variables → Forest → C → ℕ → Type 0
  EntersMore query vars s c n = n < entered (world_in S vars c) S.schema.query S.root s
  EntersMore mutation vars s c n = (m : Steps C N) × (T : Name) × HasMutation S m T × (n < entered_run (mutation_in S m vars) T s c)
  EntersMore subscription vars s c n = ⊥

  -- an operation of the request runs, and enters more than n (6.1)
  abbrev pub RunsOver : Request → C → ℕ → Type 0
  RunsOver q c n = (d : Document) × (o : Operation) × (vars : Variables) × Becomes S q (runs d o vars) × EntersMore o.kind vars (selected d o vars) c n

-- a budget is spent only where one is given, and what runs enters more
abbrev pub IsSpentOnly : Option ℕ → (ℕ → Type 0) → Within → Type 0
IsSpentOnly fields over (Refused e) = Unit {0}
IsSpentOnly fields over Spent = (n : ℕ) × (fields ≡ Some n) × over n

abbrev pub SpendsOnly : {A : Type 0} → Option ℕ → (ℕ → Type 0) → Result A Within → Type 0
SpendsOnly fields over (Ok a) = Unit {0}
SpendsOnly fields over (Err w) = IsSpentOnly fields over w

-- the texts that are shown
abbrev pub within_text : Within → Text
within_text (Refused e) = request_error_text (view_request_error e)
within_text Spent = codes "The answer has too many fields"

-- ## Only private clauses cite what follows

-- an operation runs, where this becomes of its request, and enters more than n
abbrev pub IsRunOver : {C N : Type 0} → Service C N → Outcome → C → ℕ → Type 0
IsRunOver S x c n = (d : Document) × (o : Operation) × (vars : Variables) × (x ≡ runs d o vars) × EntersMore S o.kind vars (selected d o vars) c n

-- why a walk was not ended
abbrev pub of_stop : Stop → Within
of_stop stops.Memory = Refused gives.OutOfMemory
of_stop stops.Spent = Spent

-- the error where there is no budget
abbrev pub error_of : Within → GraphQLError
error_of (Refused e) = e
error_of Spent = gives.OutOfMemory
