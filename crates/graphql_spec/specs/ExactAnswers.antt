-- Errors whose paths are whole (7.1.2), each failure listed once (this project's own).
use Rattle.std.specs.Prelude.{◌≡◌, ◌&&◌, ◌==◌, Bool, true, false, cond, List, [], ◌∷◌, ◌++◌, map, IsTrue}
use Rattle.std.specs.Str.{bytes_eq}
use Rattle.graphql_spec.specs.Shown.{Name}
use Rattle.graphql_spec.specs.Values.{Value, is_null}
use Rattle.graphql_spec.specs.Documents.{Document, Operation}
use Rattle.graphql_spec.specs.Inputs.{Variables}
use Rattle.graphql_spec.specs.Errors.{Step, key, index, Place, Listed, is_sorted}
use Rattle.graphql_spec.specs.Selections.{Forest, Occurrence, keys}
use Rattle.graphql_spec.specs.Resolvers.{World}
use Rattle.graphql_spec.specs.Execution.{data_of}
use Rattle.graphql_spec.specs.Failures.{Failure, failures_of}
use Rattle.graphql_spec.specs.Nulls.{nulls_of}
use Rattle.graphql_spec.specs.Mutation.{Mutation, run, root_fields}
use Rattle.graphql_spec.specs.Laws.{In, Apart}
use Rattle.graphql_spec.specs.Walk.{Met, count_listed, IsAnswer, IsAnswerFor, IsMutationAnswerFor}
use Rattle.graphql_spec.specs.Requests.{runs, selected}
use Rattle.graphql_spec.specs.GroupLaws.{for_picked, first_start}
use Rattle.graphql_spec.specs.MutationLaws.{HasRun}
use Rattle.graphql_spec.specs.Outcomes.{Request, Service, Response, refuses, responds, out_of_memory, Becomes, IsOutcome}
use Rattle.graphql_spec.specs.OutcomeLaws.{FailIn, StandIn}

-- a place is told whole: with response keys and list positions (7.1.2)
abbrev pub whole : Place → Place
whole p = p

-- no two listed errors have one path (7.1.2)
abbrev pub PathsDiffer : List Listed → Type 0
PathsDiffer [] = Unit {0}
PathsDiffer (x ∷ xs) = ((y : Listed) → In y xs → x.path ≡ y.path → ⊥) × PathsDiffer xs

-- an answer whose paths are whole, and that lists no place twice (7.1.2)
abbrev pub IsExactAnswerFor : {N : Type 0} → World N → Name → N → Forest → Value → List Listed → Type 0
IsExactAnswerFor W T m s value es = IsAnswerFor whole W T m s value es × PathsDiffer es

-- the same of a mutation (6.2.2)
abbrev pub IsExactMutationAnswerFor : {C N : Type 0} → Mutation C N → Name → Forest → C → Value → List Listed → C → Type 0
IsExactMutationAnswerFor M T s c value es after = IsMutationAnswerFor M T whole s c value es after × PathsDiffer es

-- what is answered lists no place twice (7.1.2)
abbrev pub ListsOnce : Response → Type 0
ListsOnce (refuses r) = Unit {0}
ListsOnce (responds value es) = PathsDiffer es
ListsOnce out_of_memory = Unit {0}

-- the same of the outcome of a request (6.1)
abbrev pub IsExactOutcome : {C N : Type 0} → Service C N → Request → C → Response → C → Type 0
IsExactOutcome S q c x after = IsOutcome S whole q c x after × ListsOnce x

-- ## What that says

-- the error is that of a failure, at its exact place and at one of its field's occurrences (7.1.2)
abbrev pub IsErrorOf : Listed → Failure → Type 0
IsErrorOf x f = (x.path ≡ f.path) × (x.error ≡ f.error) × In x.start f.starts

-- each listed error is that of a failure, at its exact place, no two are of one place, and each null that stands for a failure has
-- one, of a failure that rises to its exact place (6.4.4, 7.1.2)
pub record TellsExactly (es : List Listed) (fs : List Failure) (stands : List Place) : Type 0 where
  pub belongs : (x : Listed) → In x es → (f : Failure) × In f fs × IsErrorOf x f
  pub once : PathsDiffer es
  pub explained : (to : Place) → In to stands → (x : Listed) × In x es × ((f : Failure) × In f fs × IsErrorOf x f × (f.rises_to ≡ to))

-- that is what an exact answer says (7.1.2)
abbrev pub ExactTells : Type 0
ExactTells = (data_is value : Value) (fs : List Failure) (stands : List Place) (es : List Listed) → IsAnswer whole data_is fs stands value es →
    PathsDiffer es → TellsExactly es fs stands

-- so it is of each response (7.1)
abbrev pub OutcomeTells : {C N : Type 0} → Service C N → Type 0
OutcomeTells {C} S = (q : Request) (d : Document) (o : Operation) (vars : Variables) → Becomes S q (runs d o vars) →
    (c after : C) (value : Value) (es : List Listed) →
    IsExactOutcome S q c (responds value es) after → (fs : List Failure) (stands : List Place) → FailIn S o.kind vars (selected d o vars) c fs →
    StandIn S o.kind vars (selected d o vars) c stands → TellsExactly es fs stands

-- ## Lists that tell each failure for the first of its field's occurrences

-- what is listed so, is listed (7.1.2)
abbrev pub FirstsStand : Type 0
FirstsStand = (tell : Place → Place) (rises : Bool) (es : List Listed) (fs : List Failure) (above : Place) (stands : List Place) →
    Met tell rises es (map (for_picked first_start) fs) above stands → Met tell rises es fs above stands

-- and tells no place twice, where each place fails at most once (7.1.2)
abbrev pub FirstsTellOnce : Type 0
FirstsTellOnce = (rises : Bool) (es : List Listed) (fs : List Failure) (above : Place) (stands : List Place) → Apart fs →
    Met whole rises es (map (for_picked first_start) fs) above stands → PathsDiffer es

-- each place of a mutation fails at most once (6.2.2)
abbrev pub RunPlacesDiffer : {C N : Type 0} → Mutation C N → Name → Type 0
RunPlacesDiffer {C} M T = (os : List Occurrence) (c : C) → Apart (run M T (keys os) os c).failures

-- what was listed so on a walk over a whole request is an answer to it, once it is sorted, and an exact one where paths are whole
-- (6.2.1, 7.1.2)
abbrev pub WalksExactAnswer : {N : Type 0} → World N → Type 0
WalksExactAnswer {N} W = (T : Name) (m : N) (s : Forest) (value : Value) (es ds : List Listed) → value ≡ data_of W T m s →
    ((p : Listed → Bool) → count_listed p ds ≡ count_listed p es) → IsTrue (is_sorted ds) →
    ((tell : Place → Place) → Met tell (is_null value) es (map (for_picked first_start) (failures_of W [] [] T m s)) [] (nulls_of W [] T m s) →
    IsAnswerFor tell W T m s value ds)
    × (Met whole (is_null value) es (map (for_picked first_start) (failures_of W [] [] T m s)) [] (nulls_of W [] T m s) → IsExactAnswerFor W T m s value ds)

-- the same of a mutation's run (6.2.2)
abbrev pub RunsExactAnswer : {C N : Type 0} → Mutation C N → Name → Type 0
RunsExactAnswer {C} M T = (s : Forest) (c after : C) (value : Value) (es ds : List Listed) →
    HasRun whole first_start M T (keys (root_fields M T s c)) (root_fields M T s c) c value es after →
    ((p : Listed → Bool) → count_listed p ds ≡ count_listed p es) → IsTrue (is_sorted ds) → IsExactMutationAnswerFor M T s c value ds after

-- two lists whose failures are at different places (7.1.2)
abbrev pub PartsTellOnce : Type 0
PartsTellOnce = (a b : Bool) (es ds : List Listed) (fs gs : List Failure) (above to : Place) (st xs : List Place) → Apart (fs ++ gs) →
    Met whole a es fs above st → Met whole b ds gs to xs →
    PathsDiffer es → PathsDiffer ds → PathsDiffer (es ++ ds)

-- the same errors in another order tell each place once too (7.1.2)
abbrev pub OrderTellsOnce : Type 0
OrderTellsOnce = (es ds : List Listed) → ((p : Listed → Bool) → count_listed p ds ≡ count_listed p es) → PathsDiffer es → PathsDiffer ds

-- ## Lists that tell a place for each occurrence

-- two steps of a path are one (7.1.2)
unfoldable pub same_step : Step → Step → Bool
same_step (key k) (key j) = bytes_eq k j
same_step (index n) (index m) = n == m
same_step _ _ = false

-- two places are one (7.1.2)
unfoldable pub same_place : Place → Place → Bool
same_place [] [] = true
same_place (x ∷ xs) (y ∷ ys) = same_step x y && same_place xs ys
same_place _ _ = false

-- the errors that are not of the place (7.1.2)
unfoldable pub elsewhere : Place → List Listed → List Listed
elsewhere p [] = []
elsewhere p (x ∷ xs) = cond (same_place p x.path) (elsewhere p xs) (x ∷ elsewhere p xs)

-- the first error of each place (7.1.2)
unfoldable pub once_each : List Listed → List Listed
once_each [] = []
once_each (x ∷ xs) = x ∷ elsewhere x.path (once_each xs)

-- Where each place fails at most once, the first error of each place is enough (7.1.2): what was listed for each occurrence of a
-- field may be thinned so.
abbrev pub ThinnedTellsOnce : Type 0
ThinnedTellsOnce = (rises : Bool) (es : List Listed) (fs : List Failure) (above : Place) (stands : List Place) → Apart fs →
    Met whole rises es fs above stands → Met whole rises (once_each es) fs above stands × PathsDiffer (once_each es)
