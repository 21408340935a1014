-- Each step of a request, over plain variables (6.1).
use Rattle.std.proofs.Common.{rules, arith, ℕ, ◌≡◌, ◌≢◌, ◌==◌, ◌<◌, Bool, length, map, true, false, [], ◌∷◌, List, Option, Some, None}
use Rattle.std.proofs.Common.{refl, sym, ap, inl}
use Rattle.std.proofs.Common.{inr, subst, ◌∙◌}
use Rattle.std.proofs.lemmas.Bool.{both_ways}
use Rattle.std.proofs.lemmas.List.{nil_from_length}
use Rattle.std.specs.Option.{is_some}
use Rattle.std.specs.Prelude.{cond}
use Rattle.graphql_spec.specs.Shown.{Name}
use Rattle.graphql_spec.specs.Values.{Value}
use Rattle.graphql_spec.specs.Documents.{Document, Operation, query, mutation, subscription, variables_of}
use Rattle.graphql_spec.specs.Inputs.{Variables}
use Rattle.graphql_spec.specs.Errors.{Listed}
use Rattle.graphql_spec.specs.ExactAnswers.{whole}
use Rattle.graphql_spec.specs.Rules.{RuleError}
use Rattle.graphql_spec.specs.Schema.{Schema}
use Rattle.graphql_spec.specs.Requests as spec
use Rattle.graphql_spec.specs.Requests.{Choice, Refusal, refused, runs, choose, chosen, many, unknown, of_kind, selected, coerced_variables, variable_errors}
use Rattle.graphql_spec.specs.Walk.{IsAnswerFor, IsMutationAnswerFor}
use Rattle.graphql_spec.specs.Outcomes as outcome
use Rattle.graphql_spec.specs.Outcomes.{Request, Service, Response, responds, refuses, Reads, Becomes, IsOutcome, IsOutcomeOf, IsExecuted}
use Rattle.graphql_spec.specs.Outcomes.{IsReadAsValid, HasMutation, Steps, mutation_in, world_in}
use Rattle.graphql_spec.proofs.Deciding.{known-outcome, steps-decide}
use Rattle.juniper.specs.Answering.{AreCoercible, AreRefused, IsInvalid, IsUnchosen, Responds, StandsFor, outcome_of}
use Rattle.juniper.specs.Budgets.{EntersMore, IsRunOver, RunsOver}
use Rattle.juniper_walk.specs.Entered.{entered}
use Rattle.juniper_execute.specs.Entered.{entered_run}
use Rattle.juniper.specs.Promised.{IsFullOutcome, IsFullOutcomeOf}
use Rattle.juniper_execute.specs.Stepping.{IsLeftOf}
use Rattle.juniper_execute.specs.Walkings.{TellsQuery, TellsRun}
use Rattle.juniper.specs.WalkedOutcomes.{ListsBy}
use Rattle.juniper_execute.specs.declared.walking.Walking.{Walking}
use Rattle.juniper_execute.specs.declared.walking.Walking.TheVariants.{Grouped, Joined}
use Rattle.juniper.proofs.ToldFirsts.{firsts-become, mutation-told, query-told, told-of-run}
use Rattle.juniper_syntax.specs.RuleView.{view_rule_error}
use Rattle.juniper_syntax.specs.declared.rule.RuleError.{RuleError as CodeError}
use Rattle.juniper_syntax.specs.declared.error.ParseError.{ParseError}
use Rattle.juniper_syntax.specs.declared.error.ParseError.TheVariants as parser
use Rattle.juniper_syntax.specs.declared.position.Span.{Span}
use Rattle.juniper_syntax.specs.declared.position.Spanning.{Spanning}
use Rattle.juniper.specs.declared.error.GraphQLError.{GraphQLError}
use Rattle.juniper.specs.RequestErrors.{of_parse_error, view_request_error, RequestError, not_parsed, not_valid, no_operation, multiple_operations}
use Rattle.juniper.specs.RequestErrors.{unknown_operation, is_subscription, not_subscription, no_mutation_type, variable_not_constant, out_of_memory}

-- ## What an error of one step stands for

-- an error of the parser, other than want of memory, means that the text spells no document
pub read-failed : (P : Type 0) (e : Spanning ParseError Span) (made : GraphQLError) → made ≡ of_parse_error e → (e.item ≢ parser.Memory → P) →
    StandsFor (λ r. (r ≡ spec.not_parsed) × P) (view_request_error made)
read-failed P e made is unread = subst (λ m. StandsFor (λ r. (r ≡ spec.not_parsed) × P) (view_request_error m)) (sym is) (go e.item e.span unread)
  where
    go : (i : ParseError) (at : Span) → (i ≢ parser.Memory → P) → StandsFor (λ r. (r ≡ spec.not_parsed) × P)
        (view_request_error (of_parse_error (record { item = i; span = at })))
    go (parser.LexerError x) at unread = (spec.not_parsed, refl, (refl, unread (λ e. cc)))
    go parser.UnexpectedToken at unread = (spec.not_parsed, refl, (refl, unread (λ e. cc)))
    go parser.UnexpectedEndOfFile at unread = (spec.not_parsed, refl, (refl, unread (λ e. cc)))
    go parser.FloatLiteral at unread = (spec.not_parsed, refl, (refl, unread (λ e. cc)))
    go parser.BlockString at unread = (spec.not_parsed, refl, (refl, unread (λ e. cc)))
    go parser.TooDeep at unread = (spec.not_parsed, refl, (refl, unread (λ e. cc)))
    go parser.Memory at unread = tt

-- errors that are listed
module _ (es : List CodeError) (b : Bool) (tested : b ≡ (length es == 0)) (found : List RuleError) (seen : map view_rule_error es ≡ found) where
  pub none-found : b ≡ true → found ≡ []
  none-found e = sym seen ∙ ap (map view_rule_error) (nil_from_length es (search (rules, arith)))

  pub some-found : b ≡ false → (P : Refusal → Type 0) → ((x : RuleError) (xs : List RuleError) → found ≡ x ∷ xs → P (spec.not_valid (x ∷ xs))) →
      StandsFor P (not_valid (map view_rule_error es))
  some-found e P f = go es tested seen
    where
      go : (xs : List CodeError) → b ≡ (length xs == 0) → map view_rule_error xs ≡ found → StandsFor P (not_valid (map view_rule_error xs))
      go [] t s = absurd (both_ways b e t)
      go (x ∷ xs) t s = (spec.not_valid (view_rule_error x ∷ map view_rule_error xs), refl, f (view_rule_error x) (map view_rule_error xs) (sym s))

-- ## By the kind of the operation

module _ {C N : Type 0} (S : Service C N) (s : Schema) (d : Document) (o : Operation) (given : Variables) (c : C) where
  pub subscription-ends : o.kind ≡ subscription → IsOutcomeOf S whole (outcome_of s d o given) c (refuses spec.is_subscription) c
  unfolding of_kind
  subscription-ends k = (ap (λ z. of_kind s z (runs d o (coerced_variables (variables_of o) given))) k, refl)

  pub mutation-ends : o.kind ≡ mutation → s.mutation ≡ None → IsOutcomeOf S whole (outcome_of s d o given) c (refuses spec.no_mutation_type) c
  unfolding of_kind
  mutation-ends k none =
      let run = runs d o (coerced_variables (variables_of o) given) in
      (ap (λ z. of_kind s z run) k ∙ ap (λ (x : Option Name). cond (is_some x) run (refused spec.no_mutation_type)) none, refl)

  pub mutation-runs : o.kind ≡ mutation → (T : Name) → s.mutation ≡ Some T → outcome_of s d o given ≡ runs d o (coerced_variables (variables_of o) given)
  unfolding of_kind
  mutation-runs k T is =
      let run = runs d o (coerced_variables (variables_of o) given) in
      ap (λ z. of_kind s z run) k ∙ ap (λ (x : Option Name). cond (is_some x) run (refused spec.no_mutation_type)) is

  -- a mutation that ran, and one for which memory was wanting
  module _ (k : o.kind ≡ mutation) (T : Name) (is : s.mutation ≡ Some T) (m : Steps C N) (has : HasMutation S m T) (vars : Variables)
      (e : vars ≡ coerced_variables (variables_of o) given) (after : C) where
    pub mutation-answers : (v : Value) (es : List Listed) → IsMutationAnswerFor (mutation_in S m vars) T whole (selected d o vars) c v es after →
        IsOutcomeOf S whole (outcome_of s d o given) c (responds v es) after
    mutation-answers v es answer = (
      d,
      o,
      vars,
      mutation-runs k T is ∙ ap (runs d o) (sym e),
      subst (λ z. IsExecuted S whole z vars (selected d o vars) c v es after) (sym k)
          (m, T, has, answer),
    )

    -- what enters more than so many fields
    pub mutation-over : (n : ℕ) → n < entered_run (mutation_in S m vars) T (selected d o vars) c → IsRunOver S (outcome_of s d o given) c n
    mutation-over n less =
        (d, o, vars, mutation-runs k T is ∙ ap (runs d o) (sym e), subst (λ z. EntersMore S z vars (selected d o vars) c n) (sym k) (m, T, has, less))

    -- and what it tells of its failures
    pub mutation-lists : (w : Walking) (v : Value) (es : List Listed) → TellsRun w (mutation_in S m vars) T (selected d o vars) c es →
        ListsBy S w (outcome_of s d o given) c (responds v es)
    mutation-lists Grouped v es t = told-of-run S c (outcome_of s d o given) d o vars (mutation-runs k T is ∙ ap (runs d o) (sym e)) v es
        (mutation-told S c vars (selected d o vars) es m T has o.kind k t)
    mutation-lists Joined v es t = tt

    pub mutation-left : IsLeftOf (mutation_in S m vars) T (selected d o vars) c after →
        IsOutcomeOf S whole (outcome_of s d o given) c outcome.out_of_memory after
    mutation-left left = inr (d, o, vars, mutation-runs k T is ∙ ap (runs d o) (sym e), k, (m, T, has, left))

  pub query-runs : o.kind ≡ query → outcome_of s d o given ≡ runs d o (coerced_variables (variables_of o) given)
  unfolding of_kind
  query-runs k = ap (λ z. of_kind s z (runs d o (coerced_variables (variables_of o) given))) k

  pub query-ends : o.kind ≡ query → (vars : Variables) → vars ≡ coerced_variables (variables_of o) given → (v : Value) (es : List Listed) →
      IsAnswerFor whole (world_in S vars c) S.schema.query S.root (selected d o vars) v es →
      IsOutcomeOf S whole (outcome_of s d o given) c (responds v es) c
  query-ends k vars e v es answer =
      (d, o, vars, query-runs k ∙ ap (runs d o) (sym e), subst (λ z. IsExecuted S whole z vars (selected d o vars) c v es c) (sym k) (answer, refl))

  pub query-over : o.kind ≡ query → (vars : Variables) → vars ≡ coerced_variables (variables_of o) given → (n : ℕ) →
      n < entered (world_in S vars c) S.schema.query S.root (selected d o vars) → IsRunOver S (outcome_of s d o given) c n
  query-over k vars e n less =
      (d, o, vars, query-runs k ∙ ap (runs d o) (sym e), subst (λ z. EntersMore S z vars (selected d o vars) c n) (sym k) less)

  -- and what a query tells of its failures
  pub query-lists : o.kind ≡ query → (vars : Variables) → vars ≡ coerced_variables (variables_of o) given → (w : Walking) (v : Value) (es : List Listed) →
      TellsQuery w (world_in S vars c) S.schema.query S.root (selected d o vars) es → ListsBy S w (outcome_of s d o given) c (responds v es)
  query-lists k vars e Grouped v es t = told-of-run S c (outcome_of s d o given) d o vars (query-runs k ∙ ap (runs d o) (sym e)) v es
      (query-told S c vars (selected d o vars) es o.kind k t)
  query-lists k vars e Joined v es t = tt

-- ## The steps of a request

module _ {C N : Type 0} (S : Service C N) (q : Request) (c : C) where
  abbrev pub Ends : RequestError → Type 0
  Ends e = Responds (λ r. IsOutcome S whole q c r c) e

  -- an error that stands for refusals of which each ends the request
  pub stands-for : (P : Refusal → Type 0) → ((r : Refusal) → P r → Becomes S q (refused r)) → (e : RequestError) → StandsFor P e → Ends e
  stands-for P refuse out_of_memory u = inl refl
  stands-for P refuse (not_parsed e) (r, is, p) = (r, is, (refuse r p, refl))
  stands-for P refuse (not_valid es) (r, is, p) = (r, is, (refuse r p, refl))
  stands-for P refuse no_operation (r, is, p) = (r, is, (refuse r p, refl))
  stands-for P refuse multiple_operations (r, is, p) = (r, is, (refuse r p, refl))
  stands-for P refuse unknown_operation (r, is, p) = (r, is, (refuse r p, refl))
  stands-for P refuse is_subscription (r, is, p) = (r, is, (refuse r p, refl))
  stands-for P refuse not_subscription (r, is, p) = (r, is, (refuse r p, refl))
  stands-for P refuse no_mutation_type (r, is, p) = (r, is, (refuse r p, refl))
  stands-for P refuse (variable_not_constant n) (r, is, p) = (r, is, (refuse r p, refl))

  -- a refusal lists nothing
  pub refused-full : (e : RequestError) → Ends e → Responds (λ r. IsFullOutcome S q c r c) e
  refused-full out_of_memory p = ((p, tt), tt)
  refused-full (not_parsed e) (r, is, p) = (r, is, ((p, tt), tt))
  refused-full (not_valid es) (r, is, p) = (r, is, ((p, tt), tt))
  refused-full no_operation (r, is, p) = (r, is, ((p, tt), tt))
  refused-full multiple_operations (r, is, p) = (r, is, ((p, tt), tt))
  refused-full unknown_operation (r, is, p) = (r, is, ((p, tt), tt))
  refused-full is_subscription (r, is, p) = (r, is, ((p, tt), tt))
  refused-full not_subscription (r, is, p) = (r, is, ((p, tt), tt))
  refused-full no_mutation_type (r, is, p) = (r, is, ((p, tt), tt))
  refused-full (variable_not_constant n) (r, is, p) = (r, is, ((p, tt), tt))

  pub at-parse : (e : RequestError) → StandsFor (λ r. (r ≡ spec.not_parsed) × Reads q.text None) e → Ends e
  at-parse e m = stands-for _ (λ r p. subst (λ z. Becomes S q (refused z)) (sym p.0) ((steps-decide S).unread q p.1)) e m

  module _ (d : Document) (t : Reads q.text (Some d)) where
    pub at-validate : (e : RequestError) → StandsFor (IsInvalid S.schema S.introspection_disabled d) e → Ends e
    at-validate e m = stands-for _ (λ r p. subst (λ z. Becomes S q (refused z)) (sym p.2) ((steps-decide S).invalid q d t p.0 p.1 p.3)) e m

    module _ (v : IsReadAsValid S q d) where
      pub at-choose : (x : Choice) → choose d q.operation ≡ x → (e : RequestError) → IsUnchosen x e → Ends e
      at-choose (chosen o) is e u = absurd u
      at-choose many is e u = subst Ends (sym u) (spec.multiple_operations, refl, (((steps-decide S).unchosen q d v).0 is, refl))
      at-choose unknown is e u = subst Ends (sym u) (spec.unknown_operation, refl, (((steps-decide S).unchosen q d v).1 is, refl))

      module _ (o : Operation) (choice : choose d q.operation ≡ chosen o) where
        refuse-values : (r : Refusal) → AreRefused S.schema o q.variables r → Becomes S q (refused r)
        refuse-values r (inl (x, xs, e, f)) = subst (λ z. Becomes S q (refused z)) (sym e) ((steps-decide S).unfitting q d o v choice x xs f)
        refuse-values r (inr (f, (n, e, h))) = subst (λ z. Becomes S q (refused z)) (sym e) ((steps-decide S).inconstant q d o v choice f n h)

        pub at-coerce : (e : RequestError) → StandsFor (AreRefused S.schema o q.variables) e → Ends e
        at-coerce e m = stands-for _ refuse-values e m

        pub at-execute : AreCoercible S.schema o q.variables → (x : Response) (after : C) →
            IsOutcomeOf S whole (outcome_of S.schema d o q.variables) c x after → IsOutcome S whole q c x after
        at-execute a x after i =
            known-outcome S whole q (outcome_of S.schema d o q.variables) ((steps-decide S).kind q d o v choice a.fitting a.constant) c x after i

        -- the whole of what is promised
        pub full-execute : AreCoercible S.schema o q.variables → (x : Response) (after : C) →
            IsFullOutcomeOf S (outcome_of S.schema d o q.variables) c x after → IsFullOutcome S q c x after
        full-execute a x after i = (
          (at-execute a x after i.0, i.1),
          firsts-become S c q (outcome_of S.schema d o q.variables) ((steps-decide S).kind q d o v choice a.fitting a.constant) x i.2,
        )

        -- an operation that runs becomes of the request
        pub run-becomes : AreCoercible S.schema o q.variables → (n : ℕ) → IsRunOver S (outcome_of S.schema d o q.variables) c n → RunsOver S q c n
        run-becomes a n r = (r.0, r.1, r.2, subst (Becomes S q) r.3 ((steps-decide S).kind q d o v choice a.fitting a.constant), r.4)

-- an error's response under another reading
pub responds-so : (P Q : Response → Type 0) → ((r : Response) → P r → Q r) → (e : RequestError) → Responds P e → Responds Q e
responds-so P Q f out_of_memory p = f outcome.out_of_memory p
responds-so P Q f (not_parsed e) (r, is, p) = (r, is, f (refuses r) p)
responds-so P Q f (not_valid es) (r, is, p) = (r, is, f (refuses r) p)
responds-so P Q f no_operation (r, is, p) = (r, is, f (refuses r) p)
responds-so P Q f multiple_operations (r, is, p) = (r, is, f (refuses r) p)
responds-so P Q f unknown_operation (r, is, p) = (r, is, f (refuses r) p)
responds-so P Q f is_subscription (r, is, p) = (r, is, f (refuses r) p)
responds-so P Q f not_subscription (r, is, p) = (r, is, f (refuses r) p)
responds-so P Q f no_mutation_type (r, is, p) = (r, is, f (refuses r) p)
responds-so P Q f (variable_not_constant n) (r, is, p) = (r, is, f (refuses r) p)
