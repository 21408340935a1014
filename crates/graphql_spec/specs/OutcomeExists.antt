-- That each request has an outcome (6.1).
use Rattle.std.specs.Prelude.{◌≡◌, Option, Some}
use Rattle.graphql_spec.specs.Shown.{Name}
use Rattle.graphql_spec.specs.Documents.{Document}
use Rattle.graphql_spec.specs.Errors.{Place}
use Rattle.graphql_spec.specs.Outcomes.{Request, Steps, Service, Response, refuses, responds, out_of_memory, Reads, IsOutcome}
use Rattle.graphql_spec.specs.ExactAnswers.{whole, ListsOnce}

-- a response that is not want of memory (7.1)
abbrev pub Answers : Response → Type 0
Answers (refuses r) = Unit {0}
Answers (responds value es) = Unit {0}
Answers out_of_memory = ⊥

-- Each request has one, where its text is read and mutations have steps (6.1); with whole paths it may list each place once.
abbrev pub OutcomeExists : {C N : Type 0} → Service C N → Type 0
OutcomeExists {C} {N} S = ((T : Name) → S.schema.mutation ≡ Some T → (m : Steps C N) × (S.mutation ≡ Some m)) → (q : Request) (d : Option Document) →
    Reads q.text d → (c : C) →
    ((tell : Place → Place) → (x : Response) × (after : C) × IsOutcome S tell q c x after × Answers x)
    × ((x : Response) × (after : C) × IsOutcome S whole q c x after × ListsOnce x × Answers x)
