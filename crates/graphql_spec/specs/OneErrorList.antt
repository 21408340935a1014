-- Where the list of errors of a response is one (7.1.2).
use Rattle.std.specs.Prelude.{◌≡◌, IsTrue, List, map}
use Rattle.graphql_spec.specs.Positions.{Position}
use Rattle.graphql_spec.specs.Values.{Value}
use Rattle.graphql_spec.specs.Inputs.{Variables}
use Rattle.graphql_spec.specs.Documents.{Document, Operation}
use Rattle.graphql_spec.specs.Errors.{Place, Listed, is_sorted}
use Rattle.graphql_spec.specs.Failures.{Failure}
use Rattle.graphql_spec.specs.Laws.{In}
use Rattle.graphql_spec.specs.Walk.{IsAnswer}
use Rattle.graphql_spec.specs.Requests.{runs, selected}
use Rattle.graphql_spec.specs.GroupLaws.{for_picked, first_start}
use Rattle.graphql_spec.specs.Outcomes.{Request, Service, Response, refuses, responds, out_of_memory, Becomes}
use Rattle.graphql_spec.specs.OutcomeLaws.{FailIn, StandIn}
use Rattle.graphql_spec.specs.ExactAnswers.{whole, PathsDiffer, TellsExactly, IsExactOutcome}

-- the failure rises to a null that stands in the data, and no other one rises there (6.4.4)
pub record RisesAlone (fs : List Failure) (stands : List Place) (f : Failure) : Type 0 where
  pub stands_there : In f.rises_to stands
  pub alone : (g : Failure) → In g fs → g.rises_to ≡ f.rises_to → g ≡ f

-- its field has one occurrence at most
abbrev pub StartsOnce : Failure → Type 0
StartsOnce f = (s t : Position) → In s f.starts → In t f.starts → s ≡ t

-- each failure of a list rises alone, and has one occurrence at most
abbrev pub AreSettledFailures : List Failure → List Place → Type 0
AreSettledFailures fs stands = (f : Failure) → In f fs → RisesAlone fs stands f × StartsOnce f

-- two sorted lists that tell such failures exactly are one (7.1.2)
abbrev pub ErrorsAreOne : Type 0
ErrorsAreOne = (fs : List Failure) (stands : List Place) (es ds : List Listed) → AreSettledFailures fs stands → IsTrue (is_sorted es) → IsTrue (is_sorted ds) →
    TellsExactly es fs stands → TellsExactly ds fs stands → es ≡ ds

-- where each failure is told for the first of its field's occurrences, each need only rise alone (7.1.2)
abbrev pub FirstErrorsAreOne : Type 0
FirstErrorsAreOne = (fs : List Failure) (stands : List Place) (es ds : List Listed) → ((f : Failure) → In f fs → RisesAlone fs stands f) →
    IsTrue (is_sorted es) → IsTrue (is_sorted ds) → TellsExactly es (map (for_picked first_start) fs) stands →
    TellsExactly ds (map (for_picked first_start) fs) stands → es ≡ ds

-- two exact answers list the same errors (7.1.2)
abbrev pub ExactErrorsAreOne : Type 0
ExactErrorsAreOne = (data_is value : Value) (fs : List Failure) (stands : List Place) (es ds : List Listed) → AreSettledFailures fs stands →
    IsAnswer whole data_is fs stands value es → IsAnswer whole data_is fs stands value ds → PathsDiffer es → PathsDiffer ds → es ≡ ds

-- one refusal, or one data with one list of errors, and one context after; want of memory may stand in place of each (6.1, 7.1)
abbrev pub AreOneResponse : {C : Type 0} → Response → C → Response → C → Type 0
AreOneResponse out_of_memory a y b = Unit {0}
AreOneResponse (refuses r) a out_of_memory b = Unit {0}
AreOneResponse (refuses r) a (refuses s) b = (r ≡ s) × (a ≡ b)
AreOneResponse (refuses r) a (responds v es) b = ⊥
AreOneResponse (responds u ds) a out_of_memory b = Unit {0}
AreOneResponse (responds u ds) a (refuses r) b = ⊥
AreOneResponse (responds u ds) a (responds v es) b = (u ≡ v) × (ds ≡ es) × (a ≡ b)

module _ {C N : Type 0} (S : Service C N) where
  -- what fails in the operation that a request runs, if it runs one, is so settled (6.1)
  abbrev pub IsSettledRequest : Request → C → Type 0
  IsSettledRequest q c = (d : Document) (o : Operation) (vars : Variables) → Becomes S q (runs d o vars) → (fs : List Failure) (stands : List Place) →
      FailIn S o.kind vars (selected d o vars) c fs → StandIn S o.kind vars (selected d o vars) c stands → AreSettledFailures fs stands

  -- then all calls with the request, in one context, are answered alike (6.1)
  abbrev pub ResponsesAreOne : Type 0
  ResponsesAreOne = (q : Request) (c : C) → IsSettledRequest q c → (x y : Response) (a b : C) → IsExactOutcome S q c x a → IsExactOutcome S q c y b →
      AreOneResponse x a y b
