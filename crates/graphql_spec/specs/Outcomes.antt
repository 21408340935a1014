-- What becomes of a request (6.1): what a call that executes requests promises, as one relation.
use Rattle.std.specs.Prelude.{◌≡◌, ◌⊎◌, Bool, List, Option, Some, None, [], ◌∷◌}
use Rattle.graphql_spec.specs.Shown.{Text, Name}
use Rattle.graphql_spec.specs.Values.{Value}
use Rattle.graphql_spec.specs.Inputs.{Variables}
use Rattle.graphql_spec.specs.Constants.{Members}
use Rattle.graphql_spec.specs.Documents.{Document, Operation, OperationType, query, mutation, subscription, variables_of}
use Rattle.graphql_spec.specs.Grammar.{Spells}
use Rattle.graphql_spec.specs.Schema.{Schema}
use Rattle.graphql_spec.specs.Errors.{Place, Listed}
use Rattle.graphql_spec.specs.Selections.{Forest, keys}
use Rattle.graphql_spec.specs.Resolvers.{Reply, World, world_of}
use Rattle.graphql_spec.specs.Mutation.{Mutation, IsLeft, root_fields}
use Rattle.graphql_spec.specs.Requests.{Refusal, Outcome, refused, runs, of_document, selected, not_parsed, not_valid, multiple_operations, unknown_operation}
use Rattle.graphql_spec.specs.Requests.{variable_not_constant, chosen, many, unknown, choose, variable_errors, first_not_constant, coerced_variables, of_kind}
use Rattle.graphql_spec.specs.Walk.{IsAnswerFor, IsMutationAnswerFor}
use Rattle.graphql_spec.specs.Rules.{RuleError, rule_errors}

-- a request (6.1): the text of its document, the name of an operation, if one is given, and the values of variables
pub record Request : Type 0 where
  pub text : Text
  pub operation : Option Name
  pub variables : Variables

-- what a mutation's resolver means (6.2.2): the context and the reply after a root field's step, and whether a step that is cut
-- short may leave a context
pub record Steps (C N : Type 0) : Type 0 where
  pub step : C → Name → Members → C × Reply N
  pub torn : C → Name → Members → C → Bool

-- what requests are executed with (6.1): a schema, and what its resolvers mean in each context
pub record Service (C N : Type 0) : Type 0 where
  pub schema : Schema
  pub introspection_disabled : Bool
  -- the object type of a node (ResolveAbstractType, 6.4.3)
  pub concrete : C → N → Name
  -- the reply to a field of a node (ResolveFieldValue, 6.4.2)
  pub answer : C → N → Name → Members → Reply N
  -- the initial value of a query (6.2.1)
  pub root : N
  -- the steps of the mutation root, if it has one (6.2.2)
  pub mutation : Option (Steps C N)

-- what is answered: a refusal, a response (7.1) with data and errors, or want of memory
pub data Response : Type 0 where
  refuses : Refusal → Response
  responds : Value → List Listed → Response
  out_of_memory : Response

-- what a text is read as: the one document that it spells (2), or none
abbrev pub Reads : Text → Option Document → Type 0
Reads text None = (d : Document) → Spells text d → ⊥
Reads text (Some d) = Spells text d × ((e : Document) → Spells text e → e ≡ d)

module _ {C N : Type 0} (S : Service C N) where
  -- what becomes of a request: the first step that fails refuses it, else an operation runs (6.1)
  abbrev pub Becomes : Request → Outcome → Type 0
  Becomes q x = (d : Option Document) × Reads q.text d × (of_document S.schema S.introspection_disabled q.operation q.variables d ≡ x)

  -- all that an execution in one context asks (6.4)
  abbrev pub world_in : Variables → C → World N
  world_in vars c = world_of S.schema vars (S.concrete c) (S.answer c)

  -- the mutation root, for the values of variables (6.2.2)
  abbrev pub mutation_in : Steps C N → Variables → Mutation C N
  mutation_in m vars = record { world = λ c. world_in vars c; step = m.step; torn = m.torn }

  -- the steps and the root type of mutations (6.2.2)
  abbrev pub HasMutation : Steps C N → Name → Type 0
  HasMutation m T = (S.mutation ≡ Some m) × (S.schema.mutation ≡ Some T)

  module _ (tell : Place → Place) where
    -- ExecuteQuery (6.2.1): the data is that of the query type's fields on the root, with the errors of what fails there; the context
    -- is as it was
    abbrev pub IsQueryAnswer : Variables → Forest → C → Value → List Listed → C → Type 0
    IsQueryAnswer vars s c value es after = IsAnswerFor tell (world_in vars c) S.schema.query S.root s value es × (after ≡ c)

    -- ExecuteMutation (6.2.2): the same of the root groups that ran, one after the other; the context is that after the last
    abbrev pub IsMutationAnswer : Variables → Forest → C → Value → List Listed → C → Type 0
    IsMutationAnswer vars s c value es after = (m : Steps C N) × (T : Name) × HasMutation m T ×
        IsMutationAnswerFor (mutation_in m vars) T tell s c value es after

    -- ExecuteRequest (6.1), by the operation's kind
    abbrev pub IsExecuted : OperationType → Variables → Forest → C → Value → List Listed → C → Type 0
    IsExecuted query vars s c value es after = IsQueryAnswer vars s c value es after
    IsExecuted mutation vars s c value es after = IsMutationAnswer vars s c value es after
    IsExecuted subscription vars s c value es after = ⊥

  -- a context that want of memory may leave: the one before, or, of a mutation, what a run that is cut short leaves (6.2.2)
  abbrev pub MayBeLeft : Request → C → C → Type 0
  MayBeLeft q c after = (after ≡ c) ⊎ ((d : Document) × (o : Operation) × (vars : Variables) × Becomes q (runs d o vars) × (o.kind ≡ mutation)
      × ((m : Steps C N) × (T : Name) × HasMutation m T × IsLeft (mutation_in m vars) T (keys (root_fields (mutation_in m vars) T (selected d o vars) c))
      (root_fields (mutation_in m vars) T (selected d o vars) c) c after))

  -- The outcome of a request (6.1): the first failing step's refusal, which leaves the context; or the response of the operation
  -- that runs; or want of memory.
  abbrev pub IsOutcome : (Place → Place) → Request → C → Response → C → Type 0
  IsOutcome tell q c (refuses r) after = Becomes q (refused r) × (after ≡ c)
  IsOutcome tell q c (responds value es) after = (d : Document) × (o : Operation) × (vars : Variables) × Becomes q (runs d o vars) ×
      IsExecuted tell o.kind vars (selected d o vars) c value es after
  IsOutcome tell q c out_of_memory after = MayBeLeft q c after

-- ## How it is found, step by step (6.1)

module _ {C N : Type 0} (S : Service C N) where
  -- What a call may answer that knows what becomes of its request (6.1): the refusal, which leaves the context; or the response of
  -- the operation that runs; or want of memory.
  abbrev pub IsOutcomeOf : (Place → Place) → Outcome → C → Response → C → Type 0
  IsOutcomeOf tell x c (refuses r) after = (x ≡ refused r) × (after ≡ c)
  IsOutcomeOf tell x c (responds value es) after = (d : Document) × (o : Operation) × (vars : Variables) × (x ≡ runs d o vars) ×
      IsExecuted S tell o.kind vars (selected d o vars) c value es after
  IsOutcomeOf tell x c out_of_memory after = (after ≡ c) ⊎ ((d : Document) × (o : Operation) × (vars : Variables) × (x ≡ runs d o vars) × (o.kind ≡ mutation)
      × ((m : Steps C N) × (T : Name) × HasMutation S m T × IsLeft (mutation_in S m vars) T
      (keys (root_fields (mutation_in S m vars) T (selected d o vars) c)) (root_fields (mutation_in S m vars) T (selected d o vars) c) c after))

  -- that is the outcome of the request (6.1)
  abbrev pub KnownOutcome : Type 0
  KnownOutcome = (tell : Place → Place) (q : Request) (x : Outcome) → Becomes S q x → (c : C) (r : Response) (after : C) → IsOutcomeOf tell x c r after →
      IsOutcome S tell q c r after

  module _ (q : Request) where
    -- the text spells no document (2)
    abbrev pub UnreadIsRefused : Type 0
    UnreadIsRefused = Reads q.text None → Becomes S q (refused not_parsed)

    module _ (d : Document) where
      -- validation finds errors (5)
      abbrev pub InvalidIsRefused : Type 0
      InvalidIsRefused = Reads q.text (Some d) → (e : RuleError) (es : List RuleError) → rule_errors S.schema S.introspection_disabled d ≡ e ∷ es →
          Becomes S q (refused (not_valid (e ∷ es)))

      -- validation finds none (5)
      abbrev pub IsReadAsValid : Type 0
      IsReadAsValid = Reads q.text (Some d) × (rule_errors S.schema S.introspection_disabled d ≡ [])

      -- there are several operations and no name, or none of the name (GetOperation, 6.1)
      abbrev pub UnchosenIsRefused : Type 0
      UnchosenIsRefused = IsReadAsValid → (choose d q.operation ≡ many → Becomes S q (refused multiple_operations)) ×
          (choose d q.operation ≡ unknown → Becomes S q (refused unknown_operation))

      module _ (o : Operation) where
        -- a variable has no fitting value (CoerceVariableValues, 6.1.2)
        abbrev pub UnfittingIsRefused : Type 0
        UnfittingIsRefused = IsReadAsValid → choose d q.operation ≡ chosen o → (e : RuleError) (es : List RuleError) →
            variable_errors S.schema (variables_of o) q.variables ≡ e ∷ es → Becomes S q (refused (not_valid (e ∷ es)))

        -- a given value holds a variable (6.1.2)
        abbrev pub InconstantIsRefused : Type 0
        InconstantIsRefused = IsReadAsValid → choose d q.operation ≡ chosen o → variable_errors S.schema (variables_of o) q.variables ≡ [] → (n : Name) →
            first_not_constant (variables_of o) q.variables ≡ Some n → Becomes S q (refused (variable_not_constant n))

        -- all steps before the operation's kind pass: then its kind decides (6.1)
        abbrev pub KindDecides : Type 0
        KindDecides = IsReadAsValid → choose d q.operation ≡ chosen o → variable_errors S.schema (variables_of o) q.variables ≡ [] →
            first_not_constant (variables_of o) q.variables ≡ None →
            Becomes S q (of_kind S.schema o.kind (runs d o (coerced_variables (variables_of o) q.variables)))

  -- the steps, in their order (6.1)
  pub record StepsDecide : Type 0 where
    pub unread : (q : Request) → UnreadIsRefused q
    pub invalid : (q : Request) (d : Document) → InvalidIsRefused q d
    pub unchosen : (q : Request) (d : Document) → UnchosenIsRefused q d
    pub unfitting : (q : Request) (d : Document) (o : Operation) → UnfittingIsRefused q d o
    pub inconstant : (q : Request) (d : Document) (o : Operation) → InconstantIsRefused q d o
    pub kind : (q : Request) (d : Document) (o : Operation) → KindDecides q d o
