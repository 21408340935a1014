-- The headline: what a call that executes a request promises, part by part (6.1, 7.1).
use Rattle.std.specs.Prelude.{◌≡◌, ◌↔◌, ◌⊎◌, IsTrue, List, [], ◌∷◌}
use Rattle.graphql_spec.specs.Shown.{Name}
use Rattle.graphql_spec.specs.Positions.{Position}
use Rattle.graphql_spec.specs.Values.{Value}
use Rattle.graphql_spec.specs.Inputs.{Variables}
use Rattle.graphql_spec.specs.Documents.{Document, Operation, OperationType, query, mutation, subscription}
use Rattle.graphql_spec.specs.Errors.{Place, Listed, is_sorted}
use Rattle.graphql_spec.specs.Selections.{Forest}
use Rattle.graphql_spec.specs.Execution.{data_of}
use Rattle.graphql_spec.specs.Failures.{Failure}
use Rattle.graphql_spec.specs.Mutation.{data_of_run, mutation_run}
use Rattle.graphql_spec.specs.Laws.{In}
use Rattle.graphql_spec.specs.Requests.{Refusal, refused, runs, selected}
use Rattle.graphql_spec.specs.Outcomes.{Request, Steps, Service, Response, refuses, responds, out_of_memory, Becomes, MayBeLeft, HasMutation, world_in}
use Rattle.graphql_spec.specs.Outcomes.{mutation_in}
use Rattle.graphql_spec.specs.OutcomeLaws.{FailIn, StandIn}
use Rattle.graphql_spec.specs.ExactAnswers.{PathsDiffer}

-- the error is that of a failure: at its exact place, and where the first of its field's occurrences starts (7.1.2)
abbrev pub IsPlacedErrorOf : Listed → Failure → Type 0
IsPlacedErrorOf x f = (x.path ≡ f.path) × (x.error ≡ f.error) × ((others : List Position) × (f.starts ≡ x.start ∷ others))

module _ {C N : Type 0} (S : Service C N) where
  -- the data of an operation, by its kind: of a query's fields on the root (6.2.1), or of a mutation's root groups that ran (6.2.2)
  abbrev pub DataIn : OperationType → Variables → Forest → C → Value → Type 0
  DataIn query vars s c v = v ≡ data_of (world_in S vars c) S.schema.query S.root s
  DataIn mutation vars s c v = (m : Steps C N) × (T : Name) × HasMutation S m T × (v ≡ data_of_run (mutation_run (mutation_in S m vars) T s c))
  DataIn subscription vars s c v = ⊥

  -- the context after a mutation's root groups that ran, one after the other (6.2.2)
  abbrev pub ContextIn : Variables → Forest → C → C → Type 0
  ContextIn vars s c after = (m : Steps C N) × (T : Name) × HasMutation S m T × (after ≡ (mutation_run (mutation_in S m vars) T s c).context)

  -- the operation that a request runs, what is answered, what fails, and which nulls stand for a failure
  pub record Ran (q : Request) (c : C) (r : Response) : Type 0 where
    pub document : Document
    pub operation : Operation
    pub variables : Variables
    pub becomes : Becomes S q (runs document operation variables)
    pub value : Value
    pub errors : List Listed
    pub answered : r ≡ responds value errors
    pub failures : List Failure
    pub fail : FailIn S operation.kind variables (selected document operation variables) c failures
    pub nulls : List Place
    pub stand : StandIn S operation.kind variables (selected document operation variables) c nulls

  -- what the operation selects (6.3.2)
  abbrev pub ran_selections : {q : Request} {c : C} {r : Response} → Ran q c r → Forest
  ran_selections x = selected x.document x.operation x.variables

  -- of a request, the context before, the response and the context after
  pub record Headline (q : Request) (c : C) (r : Response) (after : C) : Type 0 where
    -- a request is refused, or an operation of it runs, or memory was wanting
    pub ends : ((y : Refusal) × (r ≡ refuses y)) ⊎ (Ran q c r ⊎ (r ≡ out_of_memory))
    -- it is refused by the first step that fails, which leaves the context
    pub refused_first : (y : Refusal) → r ≡ refuses y → Becomes S q (refused y) × (after ≡ c)
    -- the data is that of the Specification's execution
    pub data_is : (x : Ran q c r) → DataIn x.operation.kind x.variables (ran_selections x) c x.value
    -- each error belongs to a failure: at its exact place, and at the first of its field's occurrences
    pub belongs : (x : Ran q c r) (e : Listed) → In e x.errors → (f : Failure) × In f x.failures × IsPlacedErrorOf e f
    -- the errors are sorted
    pub sorted : (x : Ran q c r) → IsTrue (is_sorted x.errors)
    -- no two are of one place
    pub once : (x : Ran q c r) → PathsDiffer x.errors
    -- there are none exactly where nothing fails
    pub none : (x : Ran q c r) → (x.errors ≡ []) ↔ (x.failures ≡ [])
    -- each null that stands for a failure is explained by an error of one that rises to it
    pub explained : (x : Ran q c r) (to : Place) → In to x.nulls →
        (e : Listed) × In e x.errors × ((f : Failure) × In f x.failures × IsPlacedErrorOf e f × (f.rises_to ≡ to))
    -- a query leaves the context
    pub query_context : (x : Ran q c r) → x.operation.kind ≡ query → after ≡ c
    -- a mutation leaves the context after its root groups that ran
    pub mutation_context : (x : Ran q c r) → x.operation.kind ≡ mutation → ContextIn x.variables (ran_selections x) c after
    -- want of memory leaves the context, or of a mutation what a run that is cut short leaves
    pub memory_context : r ≡ out_of_memory → MayBeLeft S q c after
