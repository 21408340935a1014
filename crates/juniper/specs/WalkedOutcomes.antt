-- What each way to walk a request answers (6.1, 7.1.2).
use Rattle.std.specs.Prelude.{◌≡◌, ℕ, Bool, List, Option, Result, String, Vec}
use Rattle.std.specs.HashMap.{HashMap}
use Rattle.std.specs.declared.alloc.Global.{Global}
use Rattle.graphql_spec.specs.Constants.{Members}
use Rattle.graphql_spec.specs.Errors.{Listed}
use Rattle.graphql_spec.specs.ExactAnswers.{whole}
use Rattle.graphql_spec.specs.Outcomes.{Response, Service, Steps, refuses, responds, out_of_memory, IsOutcomeOf}
use Rattle.graphql_spec.specs.Requests.{Outcome}
use Rattle.graphql_spec.specs.Resolvers.{Reply}
use Rattle.graphql_spec.specs.Schema.{Schema}
use Rattle.graphql_spec.specs.Shown.{Name, Shown}
use Rattle.graphql_spec.specs.Values.{Value}
use Rattle.juniper_conversions.specs.declared.execution_error.ExecutionError.{ExecutionError}
use Rattle.juniper_syntax.specs.declared.ast.Definition.{Definition}
use Rattle.juniper_syntax.specs.declared.ast.Operation.{Operation}
use Rattle.juniper_syntax.specs.declared.input.InputValue.{InputValue}
use Rattle.juniper_syntax.specs.declared.position.Span.{Span}
use Rattle.juniper_syntax.specs.declared.position.Spanning.{Spanning}
use Rattle.juniper_syntax.specs.declared.value.Value.{Value as ValueType}
use Rattle.juniper_execute.specs.Meanings.{Meaning}
use Rattle.juniper_execute.specs.Walkings.{Lists}
use Rattle.juniper_execute.specs.declared.walking.Walking.{Walking}
use Rattle.juniper_execute.specs.declared.walking.Walking.TheVariants.{Grouped, Joined}
use Rattle.juniper.specs.Answering.{outcome_in}
use Rattle.juniper.specs.Budgets.{AnswersWithin, IsRunOver, SpendsOnly}
use Rattle.juniper.specs.Promised.{ListsFirsts}
use Rattle.juniper.specs.Services.{meaning_of, service_at}
use Rattle.juniper.specs.declared.budget.Within.{Within}

-- ## Only private clauses cite what follows

module _ {C N : Type 0} (S : Service C N) where
  -- whether each failure of a request that is known to become so is told for the first of its field's occurrences alone
  abbrev pub FirstsBy : Walking → Outcome → C → Value → List Listed → Type 0
  FirstsBy Grouped x c value es = ListsFirsts S (λ y. y ≡ x) c (responds value es)
  FirstsBy Joined x c value es = Unit {0}

  -- the same of what is answered
  abbrev pub ListsBy : Walking → Outcome → C → Response → Type 0
  ListsBy w x c (refuses r) = Unit {0}
  ListsBy w x c (responds value es) = FirstsBy w x c value es
  ListsBy w x c out_of_memory = Unit {0}

  -- what a walk answers of a request that is known so (6.1)
  abbrev pub IsWalkedOutcome : Walking → Outcome → C → Response → C → Type 0
  IsWalkedOutcome w x c r after = IsOutcomeOf S whole x c r after × Lists w r × ListsBy w x c r

-- a call answers what a walk answers of an operation of a valid document, whether introspection is disabled or not: over resolvers that mean
-- this, with these steps of mutations
abbrev pub WalksOperation : {C N S H : Type 0} → (S → Shown) → Meaning C N → Steps C N → N → Schema → Walking → Vec (Definition S) Global →
    Spanning (Operation S) Span → HashMap (String Global) (InputValue S) H → C → Result (ValueType S × Vec (ExecutionError S) Global) Within → C → Type 0
WalksOperation shown m steps n s w d o given before result after = (disabled : Bool) →
    AnswersWithin shown (λ r. IsWalkedOutcome (service_at m steps n s disabled) w (outcome_in shown s d o given) before r after) result

-- the same over a query's resolver with its info
abbrev pub WalksResolved : {Q I C N S H : Type 0} → (Q → I → C → N → Name) → (Q → I → C → N → Name → Members → Reply N) → (Q → N) → (S → Shown) → Q → I →
    Steps C N → Schema → Walking → Vec (Definition S) Global → Spanning (Operation S) Span → HashMap (String Global) (InputValue S) H → C →
    Result (ValueType S × Vec (ExecutionError S) Global) Within → C → Type 0
WalksResolved concrete answer root shown q i steps s w d o given before result after =
    WalksOperation shown (meaning_of concrete answer q i) steps (root q) s w d o given before result after

-- a budget is spent only where one is given, and the operation enters more, whether introspection is disabled or not
abbrev pub SpendsOperation : {A C N S H : Type 0} → (S → Shown) → Meaning C N → Steps C N → N → Schema → Vec (Definition S) Global →
    Spanning (Operation S) Span → HashMap (String Global) (InputValue S) H → Option ℕ → C → Result A Within → Type 0
SpendsOperation shown m steps n s d o given fields before result = (disabled : Bool) →
    SpendsOnly fields (IsRunOver (service_at m steps n s disabled) (outcome_in shown s d o given) before) result

-- the same over a query's resolver with its info
abbrev pub SpendsResolved : {A Q I C N S H : Type 0} → (Q → I → C → N → Name) → (Q → I → C → N → Name → Members → Reply N) → (Q → N) → (S → Shown) → Q →
    I → Steps C N → Schema → Vec (Definition S) Global → Spanning (Operation S) Span → HashMap (String Global) (InputValue S) H → Option ℕ → C →
    Result A Within → Type 0
SpendsResolved concrete answer root shown q i steps s d o given fields before result =
    SpendsOperation shown (meaning_of concrete answer q i) steps (root q) s d o given fields before result
