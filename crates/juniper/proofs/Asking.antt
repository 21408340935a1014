-- What a request is answered that asks a schema about itself.
use Rattle.std.proofs.Common.{◌≡◌, None, Result, Vec, Global, subst}
use Rattle.graphql_spec.specs.Inputs.{Variables}
use Rattle.graphql_spec.specs.Outcomes.{Request, Service}
use Rattle.graphql_spec.specs.Shown.{Shown, Text}
use Rattle.juniper_conversions.specs.declared.execution_error.ExecutionError.{ExecutionError}
use Rattle.juniper_syntax.specs.declared.value.Value.{Value}
use Rattle.juniper.specs.Answering.{AnswersAs}
use Rattle.juniper.specs.Formats.{asking, text_of}
use Rattle.juniper.specs.Promised.{IsFullOutcome}
use Rattle.juniper.specs.declared.error.GraphQLError.{GraphQLError}
use Rattle.juniper.specs.declared.introspection.IntrospectionFormat.{IntrospectionFormat}

module _ {A C N : Type 0} (shown : A → Shown) (S : Service C N) (c after : C) (o : Result (Value A × Vec (ExecutionError A) Global) GraphQLError) where
  -- the answer is an outcome of the request
  abbrev Comes : Request → Type 0
  Comes q = AnswersAs shown (λ r. IsFullOutcome S q c r after) o

  -- the request of a text that is the format's, where no variable has a value
  pub asked-as : (f : IntrospectionFormat) (t : Text) (given : Variables) → t ≡ text_of f → given ≡ (λ name. None) →
      Comes (record { text = t; operation = None; variables = given }) → Comes (asking f)
  asked-as f t given same none comes =
      subst (λ x. Comes (record { text = x; operation = None; variables = λ name. None })) same
      (subst (λ v. Comes (record { text = t; operation = None; variables = v })) none comes)
