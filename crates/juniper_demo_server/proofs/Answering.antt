-- What is shown of an outcome answers the words.
use Rattle.std.proofs.Common.{◌≡◌, Bool, false, Option, Some, map, Vec, Global, Result, Ok, Err, inl, inr, subst}
use Rattle.std.specs.Prelude.{MatchResult}
use Rattle.graphql_spec.specs.Shown.{Text, Name}
use Rattle.graphql_spec.specs.Inputs.{Variables}
use Rattle.graphql_spec.specs.Schema.{Schema}
use Rattle.graphql_spec.specs.Introspection.{RootedNode, rooted_service}
use Rattle.graphql_spec.specs.Outcomes as outcome
use Rattle.graphql_spec.specs.Outcomes.{Request, Response, Service, Steps, refuses, responds}
use Rattle.juniper.specs.Answering.{AnswersAs, Responds}
use Rattle.juniper.specs.Promised.{IsFullOutcome}
use Rattle.juniper.specs.RequestErrors.{RequestError, view_request_error, not_parsed, not_valid, no_operation, multiple_operations, unknown_operation}
use Rattle.juniper.specs.RequestErrors.{is_subscription, not_subscription, no_mutation_type, variable_not_constant, out_of_memory}
use Rattle.juniper.specs.declared.error.GraphQLError.{GraphQLError}
use Rattle.juniper_conversions.specs.ErrorView.{view_listed}
use Rattle.juniper_conversions.specs.declared.execution_error.ExecutionError.{ExecutionError}
use Rattle.juniper_syntax.specs.Scalars.{default_shown}
use Rattle.juniper_syntax.specs.ValueView.{view_value}
use Rattle.juniper_syntax.specs.declared.scalar.DefaultScalarValue.{DefaultScalarValue}
use Rattle.juniper_syntax.specs.declared.value.Value.{Value}
use Rattle.juniper_demo_server.specs.Answers.{IsAnswerWith, IsLeftWith, MayLeave, ShowsData, ShowsRefusal, demo_steps}
use Rattle.juniper_demo_server.specs.Demo.{concrete_type, reply}
use Rattle.juniper_demo_server.specs.DemoSchema.{IsDemoSchema}
use Rattle.juniper_demo_server.specs.declared.demo.DemoContext.{DemoContext}
use Rattle.juniper_demo_server.specs.declared.demo.DemoNode.{DemoNode}
use Rattle.juniper_demo_server.specs.declared.demo.DemoNode.TheVariants.{Query}
use Rattle.juniper_demo_server.specs.declared.outcome.Answer.{Answer}

abbrev Data : Type 0
Data = Value DefaultScalarValue × Vec (ExecutionError DefaultScalarValue) Global

abbrev Outcome : Type 0
Outcome = Result Data GraphQLError

-- what requests are executed with, from a root, the steps of mutations and whether introspection is disabled
abbrev pub service_from : DemoNode → Option (Steps DemoContext DemoNode) → Bool → Schema → Service DemoContext (RootedNode DemoNode)
service_from m x b s = rooted_service (record { schema = s; introspection_disabled = b; concrete = λ c. concrete_type; answer = reply; root = m; mutation = x })

-- how the outcome of a request comes about: it is all that is promised
abbrev pub Comes : DemoNode → Option (Steps DemoContext DemoNode) → Bool → Schema → Request → DemoContext → DemoContext → Outcome → Type 0
Comes m x b s q c after o = AnswersAs default_shown (λ r. IsFullOutcome (service_from m x b s) q c r after) o

-- what is shown of it
abbrev pub IsShown : Outcome → Answer → Type 0
IsShown o a =
    MatchResult o (λ p. ShowsData (view_value default_shown p.0) (map (view_listed default_shown) p.1.items) a) (λ e. ShowsRefusal (view_request_error e) a)

module _ (t : Text) (c after : DemoContext) where
  -- a request with these values of variables
  abbrev asked : Option Name → Variables → Request
  asked n vars = record { text = t; operation = n; variables = vars }

  shown : (n : Option Name) (vars : Variables) (s : Schema) → IsDemoSchema s → (o : Outcome) (a : Answer) →
      Comes Query (Some demo_steps) false s (asked n vars) c after o
      → IsShown o a → IsAnswerWith t n vars c a after
  unfolding IsAnswerWith
  shown n vars s same (Ok p) a comes shows = (s, same, inl (_, _, comes, shows))
  shown n vars s same (Err e) a comes shows = (s, same, inr (_, comes, shows))

  -- what comes about with equal parts
  of_demo : (n l : Option Name) (vars : Variables) (m : DemoNode) (x : Option (Steps DemoContext DemoNode)) (b : Bool) (s : Schema) (o : Outcome) → l ≡ n →
      m ≡ Query → x ≡ Some demo_steps
      → b ≡ false → Comes m x b s (asked l vars) c after o → Comes Query (Some demo_steps) false s (asked n vars) c after o
  of_demo n l vars m x b s o is_name is_root steps enabled comes =
      subst (λ z. Comes Query (Some demo_steps) false s (asked z vars) c after o) is_name
      (subst (λ z. Comes z (Some demo_steps) false s (asked l vars) c after o) is_root
      (subst (λ z. Comes m z false s (asked l vars) c after o) steps
      (subst (λ z. Comes m x z s (asked l vars) c after o) enabled comes)))

  pub request_answered : (n l : Option Name) (vars : Variables) (m : DemoNode) (x : Option (Steps DemoContext DemoNode)) (b : Bool) (s : Schema) (o : Outcome)
      (a : Answer) → l ≡ n → m ≡ Query
      → x ≡ Some demo_steps → b ≡ false → IsDemoSchema s → Comes m x b s (asked l vars) c after o → IsShown o a →
      IsAnswerWith t n vars c a after
  request_answered n l vars m x b s o a is_name is_root steps enabled same comes shows =
      shown n vars s same o a (of_demo n l vars m x b s o is_name is_root steps enabled comes) shows

  responded : (P : Response → Type 0) (e : RequestError) → Responds P e → (r : Response) × P r
  responded P out_of_memory p = (outcome.out_of_memory, p)
  responded P (not_parsed e) (r, is, p) = (refuses r, p)
  responded P (not_valid es) (r, is, p) = (refuses r, p)
  responded P no_operation (r, is, p) = (refuses r, p)
  responded P multiple_operations (r, is, p) = (refuses r, p)
  responded P unknown_operation (r, is, p) = (refuses r, p)
  responded P is_subscription (r, is, p) = (refuses r, p)
  responded P not_subscription (r, is, p) = (refuses r, p)
  responded P no_mutation_type (r, is, p) = (refuses r, p)
  responded P (variable_not_constant n) (r, is, p) = (refuses r, p)

  left : (n : Option Name) (vars : Variables) (s : Schema) → IsDemoSchema s → (o : Outcome) →
      Comes Query (Some demo_steps) false s (asked n vars) c after o
      → MayLeave t n vars c after
  unfolding IsLeftWith
  left n vars s same (Ok p) comes = inr (s, same, (responds (view_value default_shown p.0) (map (view_listed default_shown) p.1.items), comes))
  left n vars s same (Err e) comes =
      inr (s, same, responded (λ r. IsFullOutcome (service_from Query (Some demo_steps) false s) (asked n vars) c r after) (view_request_error e) comes)

  -- and where it cannot be shown, the context is that after an outcome
  pub request_left : (n l : Option Name) (vars : Variables) (m : DemoNode) (x : Option (Steps DemoContext DemoNode)) (b : Bool) (s : Schema) (o : Outcome) →
      l ≡ n → m ≡ Query
      → x ≡ Some demo_steps → b ≡ false → IsDemoSchema s → Comes m x b s (asked l vars) c after o → MayLeave t n vars c after
  request_left n l vars m x b s o is_name is_root steps enabled same comes =
      left n vars s same o (of_demo n l vars m x b s o is_name is_root steps enabled comes)
