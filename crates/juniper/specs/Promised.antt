-- What a call that executes a request promises (6.1, 7.1): an exact outcome, whose errors have the places of the first of their fields'
-- occurrences.
use Rattle.std.specs.Prelude.{◌≡◌, List, map}
use Rattle.graphql_spec.specs.Inputs.{Variables}
use Rattle.graphql_spec.specs.Documents.{Document, Operation}
use Rattle.graphql_spec.specs.Errors.{Place}
use Rattle.graphql_spec.specs.Failures.{Failure}
use Rattle.graphql_spec.specs.Requests.{Outcome, runs, selected}
use Rattle.graphql_spec.specs.GroupLaws.{for_picked, first_start}
use Rattle.graphql_spec.specs.Outcomes.{Request, Service, Response, refuses, responds, out_of_memory, Becomes, IsOutcomeOf}
use Rattle.graphql_spec.specs.OutcomeLaws.{FailIn, StandIn}
use Rattle.graphql_spec.specs.ExactAnswers.{whole, ListsOnce, TellsExactly, IsExactOutcome}

module _ {C N : Type 0} (S : Service C N) where
  -- Whatever operation runs, the list tells exactly what fails in it, each failure with the first of its field's occurrences alone
  -- (7.1.2); `becomes` says what becomes of the request.
  abbrev pub ListsFirsts : (Outcome → Type 0) → C → Response → Type 0
  ListsFirsts becomes c (refuses r) = Unit {0}
  ListsFirsts becomes c (responds value es) = (d : Document) (o : Operation) (vars : Variables) → becomes (runs d o vars) →
      (fs : List Failure) (stands : List Place) → FailIn S o.kind vars (selected d o vars) c fs → StandIn S o.kind vars (selected d o vars) c stands →
      TellsExactly es (map (for_picked first_start) fs) stands
  ListsFirsts becomes c out_of_memory = Unit {0}

  -- what is promised of a request (6.1)
  abbrev pub IsFullOutcome : Request → C → Response → C → Type 0
  IsFullOutcome q c r after = IsExactOutcome S q c r after × ListsFirsts (Becomes S q) c r

  -- the same where it is known what becomes of the request (6.1)
  abbrev pub IsFullOutcomeOf : Outcome → C → Response → C → Type 0
  IsFullOutcomeOf x c r after = IsOutcomeOf S whole x c r after × ListsOnce r × ListsFirsts (λ y. y ≡ x) c r
