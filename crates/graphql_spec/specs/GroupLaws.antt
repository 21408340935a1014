-- A reply that is completed for what the occurrences of one response key select (CompleteValue and MergeSelectionSets, 6.4.3).
use Rattle.std.specs.Prelude.{ℕ, Bool, Option, Some, IsTrue, true, List, [], ◌∷◌, ◌++◌, map, ◌≡◌, ◌&&◌}
use Rattle.graphql_spec.specs.Shown.{Name}
use Rattle.graphql_spec.specs.Positions.{Position}
use Rattle.graphql_spec.specs.Values.{Value, null, is_null, join}
use Rattle.graphql_spec.specs.Types.{TypeRef, required, innermost}
use Rattle.graphql_spec.specs.Errors.{Place, Listed}
use Rattle.graphql_spec.specs.Selections.{Forest, Occurrence, occurrences, with_key, all_below}
use Rattle.graphql_spec.specs.Resolvers.{Reply, World, world_of}
use Rattle.graphql_spec.specs.Inputs.{Variables}
use Rattle.graphql_spec.specs.Constants.{Members}
use Rattle.graphql_spec.specs.Documents.{Document, Operation}
use Rattle.graphql_spec.specs.Schema.{Schema}
use Rattle.graphql_spec.specs.Fields.{is_possible}
use Rattle.graphql_spec.specs.Executable.{is_executable}
use Rattle.graphql_spec.specs.Placed.{root_type}
use Rattle.graphql_spec.specs.Requests.{runs, of_document, selected}
use Rattle.graphql_spec.specs.Execution.{type_of, data_of, value_of}
use Rattle.graphql_spec.specs.Failures.{Failure, starts_of, reply_faults, failures_of}
use Rattle.graphql_spec.specs.Nulls.{reply_standing, nulls_of}
use Rattle.graphql_spec.specs.Walk.{Met}
use Rattle.graphql_spec.specs.Laws.{Agree, Merges}

-- a failure for those alone of its field's occurrences whose starts are picked: all, or the first (6.4.4)
unfoldable pub for_picked : (List Position → List Position) → Failure → Failure
for_picked pick f = record { path = f.path; starts = pick f.starts; error = f.error; rises_to = f.rises_to }

-- all of a field's occurrences are picked (6.4.4)
unfoldable pub all_starts : List Position → List Position
all_starts ss = ss

-- the first one alone is (6.4.4)
unfoldable pub first_start : List Position → List Position
first_start [] = []
first_start (s ∷ ss) = s ∷ []

module _ (tell : Place → Place) {N : Type 0} (W : World N) where
  -- a reply at a type was completed for the selections s: its value, and what was listed of what fails in it, for occurrences
  -- that start there (6.4.3, 6.4.4)
  pub record IsCompleted (here above : Place) (t : TypeRef) (r : Reply N) (starts : List Position) (s : Forest) (v : Value) (es : List Listed) : Type 0 where
    pub value : v ≡ value_of W t r s
    pub errors : Met tell (is_null v && required t) es (reply_faults W (λ place to U n. failures_of W place to U n s) here starts above t r) above
        (reply_standing W (λ U n. data_of W U n s) (λ place U n. nulls_of W place U n s) here t r)

  -- so it was for all occurrences of a list (MergeSelectionSets, 6.4.3)
  abbrev pub IsCompletedFor : Place → Place → TypeRef → Reply N → List Occurrence → Value → List Listed → Type 0
  IsCompletedFor here above t r os v es = IsCompleted here above t r (starts_of os) (all_below os) v es

  -- for one occurrence: what it selects (6.4.3)
  abbrev pub FirstCompleted : Type 0
  FirstCompleted = (here above : Place) (t : TypeRef) (r : Reply N) (o : Occurrence) (v : Value) (es : List Listed) →
      IsCompleted here above t r (o.head.span.start ∷ []) o.below v es → IsCompletedFor here above t r (o ∷ []) v es

  -- for one occurrence more: the values are joined, its errors are listed behind the others (6.4.3)
  abbrev pub OneMoreCompleted : Type 0
  OneMoreCompleted = (here above : Place) (t : TypeRef) (r : Reply N) (os : List Occurrence) (o : Occurrence) (v u : Value) (es ds : List Listed) →
      Merges W (innermost t) (all_below (os ++ o ∷ [])) → IsCompletedFor here above t r os v es →
      IsCompleted here above t r (o.head.span.start ∷ []) o.below u ds →
      IsCompletedFor here above t r (os ++ o ∷ []) (join v u) (es ++ ds)

  -- where the null of some rises, the others may be left out (6.4.4)
  abbrev pub LostCompleted : Type 0
  LostCompleted = (here above : Place) (t : TypeRef) (r : Reply N) (os rest : List Occurrence) (es : List Listed) →
      Merges W (innermost t) (all_below (os ++ rest)) → required t ≡ true → IsCompletedFor here above t r os null es →
      IsCompletedFor here above t r (os ++ rest) null es

module _ (tell : Place → Place) (pick : List Position → List Position) {N : Type 0} (W : World N) where
  -- the reply to the field that the occurrences os ask was completed for what they select (6.4.3); each failure was listed for those
  -- of its field's occurrences that are picked
  pub record GroupCompleted (here above : Place) (t : TypeRef) (r : Reply N) (os : List Occurrence) (v : Value) (es : List Listed) : Type 0 where
    pub value : v ≡ value_of W t r (all_below os)
    pub errors : Met tell (is_null v && required t) es (map (for_picked pick) (reply_faults W (λ place to U n. failures_of W place to U n (all_below os))
        here (starts_of os) above t r)) above
        (reply_standing W (λ U n. data_of W U n (all_below os)) (λ place U n. nulls_of W place U n (all_below os)) here t r)

  -- it may be completed for what all select at once, where each failure within its nodes, and each of its own, is listed so (6.4.3)
  abbrev pub OnceCompleted : Type 0
  OnceCompleted = (here above : Place) (t : TypeRef) (r : Reply N) (os : List Occurrence) (v : Value) (es : List Listed) → v ≡ value_of W t r (all_below os) →
      Met tell (is_null v && required t) es (reply_faults W (λ place to U n. map (for_picked pick) (failures_of W place to U n (all_below os))) here
      (pick (starts_of os)) above t r) above
      (reply_standing W (λ U n. data_of W U n (all_below os)) (λ place U n. nulls_of W place U n (all_below os)) here t r) →
      GroupCompleted here above t r os v es

-- what was completed occurrence by occurrence is listed for all of them (6.4.3)
abbrev pub AllCompleted : {N : Type 0} → World N → Type 0
AllCompleted {N} W = (tell : Place → Place) (here above : Place) (t : TypeRef) (r : Reply N) (os : List Occurrence) (v : Value) (es : List Listed) →
    IsCompletedFor tell W here above t r os v es → GroupCompleted tell all_starts W here above t r os v es

module _ {N : Type 0} (W : World N) where
  -- where occurrences agree to every depth, what the first ones of a response key select merges (5.3.2)
  abbrev pub KeysMerge : Type 0
  KeysMerge = (T : Name) (os : List Occurrence) → ((d : ℕ) → Agree W d T os) → (k : Name) (front rest : List Occurrence) → with_key k os ≡ front ++ rest →
      Merges W (innermost (type_of W T (with_key k os))) (all_below front)

-- so they do in each request that runs, under each context (5.3.2)
abbrev pub RunGroupsMerge : Type 0 → Type 0
RunGroupsMerge N = (s : Schema) (disabled : Bool) (n : Option Name) (given : Variables) (text : Option Document) (d : Document) (o : Operation)
    (vars : Variables) →
    of_document s disabled n given text ≡ runs d o vars → IsTrue (is_executable s) →
    (concrete : N → Name) (answer : N → Name → Members → Reply N) (T : Name) → root_type s o.kind ≡ Some T →
    (k : Name) (front rest : List Occurrence) → (let W : World N = world_of s vars concrete answer in
    let os : List Occurrence = occurrences (is_possible s) T (selected d o vars) in
    with_key k os ≡ front ++ rest → Merges W (innermost (type_of W T (with_key k os))) (all_below front))
