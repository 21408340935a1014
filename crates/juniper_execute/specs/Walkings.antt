-- What is known of each way to walk a request (6.4.4, 7.1.2).
use Rattle.std.specs.Prelude.{ℕ, ◌≤◌, false, IfOk, List, [], map, Result, Ok, Err, String, Vec}
use Rattle.std.specs.Borrow.{Bor}
use Rattle.std.specs.HashMap.{HashMap}
use Rattle.std.specs.declared.alloc.Global.{Global}
use Rattle.graphql_spec.specs.Errors.{Place, Listed}
use Rattle.graphql_spec.specs.ExactAnswers.{whole, PathsDiffer, TellsExactly}
use Rattle.graphql_spec.specs.Execution.{data_of}
use Rattle.graphql_spec.specs.Failures.{Failure, failures_of}
use Rattle.graphql_spec.specs.GroupLaws.{all_starts, first_start, for_picked}
use Rattle.graphql_spec.specs.Mutation.{Mutation, mutation_nulls, mutation_run}
use Rattle.graphql_spec.specs.Nulls.{null_or, nulls_of}
use Rattle.graphql_spec.specs.Outcomes.{Response, refuses, responds, out_of_memory}
use Rattle.graphql_spec.specs.Positions.{Position}
use Rattle.graphql_spec.specs.Requests.{selected}
use Rattle.graphql_spec.specs.Resolvers.{World}
use Rattle.graphql_spec.specs.Selections.{Forest}
use Rattle.graphql_spec.specs.Shown.{Name, Shown}
use Rattle.graphql_spec.specs.Types.{named}
use Rattle.graphql_spec.specs.Values.{Value}
use Rattle.graphql_spec.specs.Walk.{IsAnswerFor, IsMutationAnswerFor}
use Rattle.juniper_lookahead.specs.declared.collecting.Collector.{Collector}
use Rattle.juniper_lookahead.specs.declared.fragments.FragmentMap.{FragmentMap}
use Rattle.juniper_conversions.specs.ErrorView.{view_listed}
use Rattle.juniper_conversions.specs.declared.execution_error.ExecutionError.{ExecutionError}
use Rattle.juniper_lookahead.specs.Expansion.{VariableMap}
use Rattle.juniper_syntax.specs.DocumentView.{view_document, view_operation}
use Rattle.juniper_syntax.specs.InputView.{view_variables}
use Rattle.juniper_syntax.specs.ValueView.{view_value}
use Rattle.juniper_syntax.specs.declared.ast.Definition.{Definition}
use Rattle.juniper_syntax.specs.declared.ast.Operation.{Operation}
use Rattle.juniper_syntax.specs.declared.input.InputValue.{InputValue}
use Rattle.juniper_syntax.specs.declared.position.Span.{Span}
use Rattle.juniper_syntax.specs.declared.position.Spanning.{Spanning}
use Rattle.juniper_syntax.specs.declared.value.Value.{Value as ValueType}
use Rattle.juniper_walk.specs.declared.walked.Walked.{Walked}
use Rattle.juniper_execute.specs.Stepping.{IsLeftOf}
use Rattle.juniper_execute.specs.declared.walking.Walking.{Walking}
use Rattle.juniper_execute.specs.declared.walking.Walking.TheVariants.{Grouped, Joined}

-- ## Only private clauses cite what follows

-- what collects the fields of a request
abbrev pub collector_of : {S P : Type 0} → Bor (FragmentMap S) → Bor (VariableMap S) → P → Collector S P
collector_of f v p = record { fragments = f; variables = v; possible = p }

-- the occurrences of a field for which each of its failures is listed: the first alone, or all (6.4.4)
abbrev pub starts_by : Walking → List Position → List Position
starts_by Grouped = first_start
starts_by Joined = all_starts

-- whether no two listed errors need have one path (7.1.2)
abbrev pub ListsSo : Walking → List Listed → Type 0
ListsSo Grouped es = PathsDiffer es
ListsSo Joined es = Unit {0}

-- the same of what is answered
abbrev pub Lists : Walking → Response → Type 0
Lists w (refuses r) = Unit {0}
Lists w (responds value es) = ListsSo w es
Lists w out_of_memory = Unit {0}

-- whether each failure is told for the first of its field's occurrences alone, and each null that stands explained so (7.1.2)
abbrev pub TellsBy : Walking → List Listed → List Failure → List Place → Type 0
TellsBy Grouped es fs stands = TellsExactly es (map (for_picked first_start) fs) stands
TellsBy Joined es fs stands = Unit {0}

-- the same of the selections s on the root m of type T, and of those of a mutation's run (6.2)
abbrev pub TellsQuery : Walking → {N : Type 0} → World N → Name → N → Forest → List Listed → Type 0
TellsQuery w W T m s es =
    TellsBy w es (failures_of W [] [] T m s) (null_or [] (named false []) (data_of W T m s) (nulls_of W [] T m s))

abbrev pub TellsRun : Walking → {C N : Type 0} → Mutation C N → Name → Forest → C → List Listed → Type 0
TellsRun w M T s c es = TellsBy w es (mutation_run M T s c).failures (mutation_nulls M T s c)

-- so many fields are within a budget: where keys are walked at once; the walk that joins keeps none below a root
abbrev pub IsBounded : Walking → ℕ → ℕ → Type 0
IsBounded Grouped n fields = n ≤ fields
IsBounded Joined n fields = Unit {0}

-- what a walk answers of the selections s on the root m of type T (ExecuteQuery, 6.2.1)
abbrev pub IsQueryWalked : Walking → {N : Type 0} → World N → Name → N → Forest → Value → List Listed → Type 0
IsQueryWalked w W T m s value es = IsAnswerFor whole W T m s value es × Lists w (responds value es) × TellsQuery w W T m s es

-- what it answers of a mutation's run, and the context that the run leaves, cut short too (ExecuteMutation, 6.2.2)
abbrev pub MutationWalked : {S C N E : Type 0} → (S → Shown) → Walking → Mutation C N → Name → Forest → C →
    Result (ValueType S × Vec (ExecutionError S) Global) E → C → Type 0
MutationWalked shown w M T s c (Ok p) after =
    let value = view_value shown p.0 in
    let es = map (view_listed shown) p.1.items in
    IsMutationAnswerFor M T whole s c value es after × Lists w (responds value es) × TellsRun w M T s c es
MutationWalked shown w M T s c (Err e) after = IsLeftOf M T s c after

-- the same of a query's answer
abbrev pub QueryWalked : {S N E : Type 0} → (S → Shown) → Walking → World N → Name → N → Forest →
    Result (ValueType S × Vec (ExecutionError S) Global) E → Type 0
QueryWalked shown w W T m s result = IfOk result (λ p. IsQueryWalked w W T m s (view_value shown p.0) (map (view_listed shown) p.1.items))

-- what a walk over selections on a node makes is what is answered of them (6.2.1)
abbrev pub IsAnswerWalked : {S N : Type 0} → (S → Shown) → World N → Name → N → Forest → Walked S → Type 0
IsAnswerWalked shown W T m s w = IsAnswerFor whole W T m s (view_value shown w.value) (map (view_listed shown) w.errors.items)

-- what an operation of a document selects, for these values of variables
abbrev pub selected_by : {S H : Type 0} → (S → Shown) → Vec (Definition S) Global → Spanning (Operation S) Span →
    HashMap (String Global) (InputValue S) H → Forest
selected_by shown d o vars = selected (view_document shown d) (view_operation shown o) (view_variables shown vars)
