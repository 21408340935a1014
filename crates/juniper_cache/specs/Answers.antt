-- What a cache answers to a request (6.1).
use Rattle.std.specs.Prelude.{◌≡◌, Result, Ok, Err, Vec}
use Rattle.std.specs.declared.alloc.Global.{Global}
use Rattle.graphql_spec.specs.Documents.{Document}
use Rattle.graphql_spec.specs.Outcomes.{Request, Service}
use Rattle.graphql_spec.specs.Shown.{Shown}
use Rattle.juniper.specs.Answering.{AnswersAs}
use Rattle.juniper.specs.Objections.{IsAccepted, Objects}
use Rattle.juniper.specs.Promised.{IsFullOutcome}
use Rattle.juniper.specs.declared.prepared.Bounds.{Bounds}
use Rattle.juniper.specs.declared.prepared.Objection.{Objection}
use Rattle.juniper.specs.declared.prepared.Objection.TheVariants.{Refused, TooDeep, TooLong, TooManyFields}
use Rattle.juniper_conversions.specs.declared.execution_error.ExecutionError.{ExecutionError}
use Rattle.juniper_syntax.specs.declared.value.Value.{Value}

module _ {C N S : Type 0} (service : Service C N) (b : Bounds) (shown : S → Shown) (q : Request) (c : C) where
  -- a bound is passed, and the context is as it was
  abbrev pub IsPassed : Objection → C → Type 0
  IsPassed e after = (after ≡ c) × Objects b q.text service.schema service.introspection_disabled e

  -- what `execute_sync` answers to the request, whose text is that of a valid document within the bounds where it is executed; or a bound is
  -- passed
  abbrev pub IsAnswer : Result (Value S × Vec (ExecutionError S) Global) Objection → C → Type 0
  IsAnswer (Ok p) after = ((d : Document) × IsAccepted b q.text service.schema service.introspection_disabled d)
      × AnswersAs shown (λ r. IsFullOutcome service q c r after) (Ok p)
  IsAnswer (Err (Refused e)) after = AnswersAs shown (λ r. IsFullOutcome service q c r after) (Err e)
  IsAnswer (Err TooLong) after = IsPassed TooLong after
  IsAnswer (Err TooManyFields) after = IsPassed TooManyFields after
  IsAnswer (Err TooDeep) after = IsPassed TooDeep after
