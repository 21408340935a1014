-- What holds of each outcome of a request (6.1).
use Rattle.std.specs.Prelude.{◌≡◌, ◌↔◌, false, List, []}
use Rattle.graphql_spec.specs.Shown.{Name}
use Rattle.graphql_spec.specs.Values.{Value, null}
use Rattle.graphql_spec.specs.Inputs.{Variables}
use Rattle.graphql_spec.specs.Documents.{Document, Operation, OperationType, query, mutation, subscription}
use Rattle.graphql_spec.specs.Errors.{Place, Listed}
use Rattle.graphql_spec.specs.Selections.{Forest}
use Rattle.graphql_spec.specs.Types.{named}
use Rattle.graphql_spec.specs.Execution.{data_of}
use Rattle.graphql_spec.specs.Nulls.{null_or, nulls_of}
use Rattle.graphql_spec.specs.Failures.{Failure, failures_of}
use Rattle.graphql_spec.specs.Requests.{Refusal, refused, runs, selected}
use Rattle.graphql_spec.specs.Mutation.{mutation_run, mutation_nulls}
use Rattle.graphql_spec.specs.Outcomes.{Request, Steps, Service, Response, refuses, responds, out_of_memory, Becomes, world_in, mutation_in, HasMutation}
use Rattle.graphql_spec.specs.Outcomes.{IsOutcome}

-- the same refusal, or the same data, and one context after; want of memory may stand in place of each (6.1)
abbrev pub AreSame : {C : Type 0} → Response → C → Response → C → Type 0
AreSame out_of_memory a y b = Unit {0}
AreSame (refuses r) a out_of_memory b = Unit {0}
AreSame (refuses r) a (refuses s) b = (r ≡ s) × (a ≡ b)
AreSame (refuses r) a (responds v es) b = ⊥
AreSame (responds u ds) a out_of_memory b = Unit {0}
AreSame (responds u ds) a (refuses r) b = ⊥
AreSame (responds u ds) a (responds v es) b = (u ≡ v) × (a ≡ b)

module _ {C N : Type 0} (S : Service C N) where
  -- a request has one outcome, memory aside (6.1)
  abbrev pub OutcomeIsOne : Type 0
  OutcomeIsOne = (tell : Place → Place) (q : Request) (c : C) (x y : Response) (a b : C) → IsOutcome S tell q c x a → IsOutcome S tell q c y b →
      AreSame x a y b

  -- a query leaves the context, want of memory or not (6.2.1)
  abbrev pub QueryLeaves : Type 0
  QueryLeaves = (tell : Place → Place) (q : Request) (d : Document) (o : Operation) (vars : Variables) → Becomes S q (runs d o vars) → o.kind ≡ query →
      (c : C) (x : Response) (after : C) → IsOutcome S tell q c x after → after ≡ c

  -- and so does a request that is refused (6.1)
  abbrev pub RefusalLeaves : Type 0
  RefusalLeaves = (tell : Place → Place) (q : Request) (r : Refusal) → Becomes S q (refused r) → (c : C) (x : Response) (after : C) →
      IsOutcome S tell q c x after → after ≡ c

  -- what fails in the execution of an operation, by its kind (6.4.4)
  abbrev pub FailIn : OperationType → Variables → Forest → C → List Failure → Type 0
  FailIn query vars s c fs = fs ≡ failures_of (world_in S vars c) [] [] S.schema.query S.root s
  FailIn mutation vars s c fs = (m : Steps C N) × (T : Name) × HasMutation S m T × (fs ≡ (mutation_run (mutation_in S m vars) T s c).failures)
  FailIn subscription vars s c fs = ⊥

  -- which nulls of its data stand for a failure (6.4.4)
  abbrev pub StandIn : OperationType → Variables → Forest → C → List Place → Type 0
  StandIn query vars s c ps = ps ≡ null_or [] (named false []) (data_of (world_in S vars c) S.schema.query S.root s)
      (nulls_of (world_in S vars c) [] S.schema.query S.root s)
  StandIn mutation vars s c ps = (m : Steps C N) × (T : Name) × HasMutation S m T × (ps ≡ mutation_nulls (mutation_in S m vars) T s c)
  StandIn subscription vars s c ps = ⊥

  -- a response has no errors exactly where nothing fails (7.1.2)
  abbrev pub ErrorsWhereFailures : Type 0
  ErrorsWhereFailures = (tell : Place → Place) (q : Request) (d : Document) (o : Operation) (vars : Variables) → Becomes S q (runs d o vars) →
      (c after : C) (value : Value) (es : List Listed) → IsOutcome S tell q c (responds value es) after → (fs : List Failure) →
      FailIn o.kind vars (selected d o vars) c fs → (es ≡ []) ↔ (fs ≡ [])

  -- the data is null only if an error is listed (7.1.1)
  abbrev pub NullHasError : Type 0
  NullHasError = (tell : Place → Place) (q : Request) (c after : C) (es : List Listed) → IsOutcome S tell q c (responds null es) after → es ≡ [] → ⊥
