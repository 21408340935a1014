-- The demo answers its stored request by its line.
use Rattle.std.specs.Prelude.{◌≡◌, ◌⊎◌, List, [], ◌∷◌, Option, Some, string_bytes}
use Rattle.std.proofs.Common.{refl, sym, ap₂, ◌∙◌, inl, inr, subst}
use Rattle.std.specs.Fmt.{digits}
use Rattle.graphql_spec.specs.Shown.{Name}
use Rattle.graphql_spec.specs.Inputs.{Variables}
use Rattle.graphql_spec.specs.Schema.{Schema, Entry}
use Rattle.graphql_spec.specs.Executable.{names_differ}
use Rattle.graphql_spec.specs.Requests.{Refusal}
use Rattle.graphql_spec.specs.Outcomes.{Response, Steps, refuses, responds, out_of_memory}
use Rattle.graphql_spec.specs.ExactAnswers.{IsExactOutcome}
use Rattle.graphql_spec.specs.Introspection.{RootedNode, rooted_service}
use Rattle.juniper.specs.Answering.{Responds}
use Rattle.juniper.specs.Promised.{IsFullOutcome}
use Rattle.juniper.specs.RequestErrors as error
use Rattle.juniper.specs.RequestErrors.{RequestError}
use Rattle.juniper.proofs.Ending.{requests-end}
use Rattle.graphql_spec.specs.OutcomeExists.{Answers}
use Rattle.serde_json.proofs.OnLiterals.{serde_json_on_literals}
use Rattle.juniper_json.specs.AnswerText.{answer_text, value_data, values_data, entries_data, scalar_data, items_data, step_data, location_data}
use Rattle.juniper_json.specs.AnswerText.{extensions_data, error_data, errors_data, answer_data}
use Rattle.juniper_demo_server.specs.Answers.{IsAnswerWith, ShowsRefusal, demo_service, demo_steps, no_values}
use Rattle.juniper_demo_server.specs.Demo.{concrete_type, reply}
use Rattle.juniper_demo_server.specs.DemoSchema.{IsDemoSchema, demo_schema}
use Rattle.juniper_demo_server.specs.declared.demo.DemoContext.{DemoContext}
use Rattle.juniper_demo_server.specs.declared.demo.DemoNode.{DemoNode}
use Rattle.juniper_demo_server.specs.declared.demo.DemoNode.TheVariants.{Query}
use Rattle.juniper_demo_server.specs.declared.outcome.Answer.{Answer}
use Rattle.juniper_demo.specs.DemoLine.{asking, the_line, IsTheLine, OutcomesAreTheLine, TheLineIsAnswered, WordIsAnsweredByTheLine}
use Rattle.juniper_demo.proofs.Answered.{answers, memory_leaves, never_refused, the_listed}
use Rattle.juniper_demo.proofs.Declared.{Declares, queried}
use Rattle.juniper_demo.proofs.Executed.{the_data}
use Rattle.juniper_demo.proofs.Served.{declared}

-- how the data and the error are written
line_is_written : answer_text the_data (the_listed ∷ []) ≡ the_line
unfolding value_data values_data entries_data scalar_data items_data step_data location_data extensions_data error_data errors_data answer_data
    serde_json_on_literals digits
line_is_written = refl

module _ (es : List Entry) (m : Option Name) (known : Declares (queried es m)) (vars : Variables) (c after : DemoContext) where
  on_queried : (r : Response) → IsExactOutcome (demo_service (queried es m)) (asking vars) c r after → IsTheLine r × (after ≡ c)
  on_queried (refuses x) is = absurd (never_refused es m known vars (λ c. concrete_type) reply Query (Some demo_steps) c refl refl x after is)
  on_queried (responds v ls) is = let a = answers es m known vars (λ c. concrete_type) reply Query (Some demo_steps) c refl refl v ls after is in
      (ap₂ answer_text a.0 a.1 ∙ line_is_written, a.2)
  on_queried out_of_memory is = (tt, memory_leaves es m known vars (λ c. concrete_type) reply Query (Some demo_steps) c refl refl after is)

pub outcomes-are-the-line : OutcomesAreTheLine
outcomes-are-the-line s demo vars c after r is = on_queried s.entries s.mutation (declared s demo) vars c after r
    (subst (λ k. IsExactOutcome (demo_service (record { entries = s.entries; query = k; mutation = s.mutation })) (asking vars) c r after) (sym demo.same.query)
    is)

-- ## There is such an outcome

demo_is_itself : IsDemoSchema demo_schema
unfolding names_differ
demo_is_itself = record { same = record { entries = λ n. refl; query = refl; mutation = refl }; distinct = refl }

abbrev Answered : Variables → DemoContext → Response → DemoContext → Type 0
Answered vars c r after = IsFullOutcome (demo_service demo_schema) (asking vars) c r after

-- an answer is data with errors, since it is no refusal
is_answered : (vars : Variables) (c after : DemoContext) (r : Response) → Answered vars c r after → Answers r →
    (v : _) × (es : _) × Answered vars c (responds v es) c × (answer_text v es ≡ the_line)
is_answered vars c after (refuses x) is a = absurd (outcomes-are-the-line demo_schema demo_is_itself vars c after (refuses x) is.0).0
is_answered vars c after (responds v es) is a = let told = outcomes-are-the-line demo_schema demo_is_itself vars c after (responds v es) is.0 in
    (v, es, subst (λ d. Answered vars c (responds v es) d) told.1 is, told.0)
is_answered vars c after out_of_memory is a = absurd a

has_steps : (T : Name) → (demo_service demo_schema).schema.mutation ≡ Some T →
    (m : Steps DemoContext (RootedNode DemoNode)) × ((demo_service demo_schema).mutation ≡ Some m)
unfolding rooted_service
has_steps T is = (_, refl)

pub the-line-is-answered : TheLineIsAnswered
the-line-is-answered vars c = let ends = (requests-end (demo_service demo_schema) has_steps (asking vars) c).1 in
    is_answered vars c ends.1 ends.0 ends.2 ends.3

-- ## What the program answers

module _ (c after : DemoContext) (a : Answer) (s : Schema) (demo : IsDemoSchema s) where
  -- the line, or that memory was wanting
  abbrev IsAnswered : Type 0
  IsAnswered = (((a.status ≡ 0) × (string_bytes a.line ≡ the_line)) ⊎ ShowsRefusal error.out_of_memory a) × (after ≡ c)

  abbrev Exact : Response → Type 0
  Exact r = IsFullOutcome (demo_service s) (asking no_values) c r after

  none_refused : (r : Refusal) → Exact (refuses r) → IsAnswered
  none_refused r exact = absurd (outcomes-are-the-line s demo no_values c after (refuses r) exact.0).0

  -- no refusal is shown
  shown : (e : RequestError) → Responds Exact e → ShowsRefusal e a → IsAnswered
  shown error.out_of_memory exact shows = (inr shows, (outcomes-are-the-line s demo no_values c after out_of_memory exact.0).1)
  shown (error.not_parsed e) (r, is, exact) shows = none_refused r exact
  shown (error.not_valid es) (r, is, exact) shows = none_refused r exact
  shown error.no_operation (r, is, exact) shows = none_refused r exact
  shown error.multiple_operations (r, is, exact) shows = none_refused r exact
  shown error.unknown_operation (r, is, exact) shows = none_refused r exact
  shown error.is_subscription (r, is, exact) shows = none_refused r exact
  shown error.not_subscription (r, is, exact) shows = none_refused r exact
  shown error.no_mutation_type (r, is, exact) shows = none_refused r exact
  shown (error.variable_not_constant n) (r, is, exact) shows = none_refused r exact

pub word-is-answered : WordIsAnsweredByTheLine
unfolding IsAnswerWith
word-is-answered c after a (s, demo, inl (v, es, exact, shows)) =
    let told = outcomes-are-the-line s demo no_values c after (responds v es) exact.0 in (inl (shows.0, shows.1 ∙ told.0), told.1)
word-is-answered c after a (s, demo, inr (e, responds_so, shows)) = shown c after a s demo e responds_so shows
