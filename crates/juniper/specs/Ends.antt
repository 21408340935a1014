-- That each text is read, and that each request has an outcome (2, 6.1).
use Rattle.std.specs.Prelude.{◌≡◌, Option, Some}
use Rattle.graphql_spec.specs.Shown.{Name, Text}
use Rattle.graphql_spec.specs.Documents.{Document}
use Rattle.graphql_spec.specs.Errors.{Place}
use Rattle.graphql_spec.specs.OutcomeExists.{Answers}
use Rattle.graphql_spec.specs.Outcomes.{IsOutcome, Reads, Request, Response, Service, Steps}
use Rattle.juniper.specs.Promised.{IsFullOutcome}

-- each text spells one document, or none (2)
abbrev pub TextsAreRead : Type 0
TextsAreRead = (text : Text) → (d : Option Document) × Reads text d

-- each request has an outcome that is not want of memory (6.1), and one that is all that is promised
abbrev pub AllEnd : {C N : Type 0} → Service C N → Type 0
AllEnd {C} {N} S = (q : Request) (c : C) →
    ((tell : Place → Place) → (x : Response) × (after : C) × IsOutcome S tell q c x after × Answers x)
    × ((x : Response) × (after : C) × IsFullOutcome S q c x after × Answers x)

-- so it is where mutations have steps
abbrev pub RequestsEnd : {C N : Type 0} → Service C N → Type 0
RequestsEnd {C} {N} S = ((T : Name) → S.schema.mutation ≡ Some T → (m : Steps C N) × (S.mutation ≡ Some m)) → AllEnd S
