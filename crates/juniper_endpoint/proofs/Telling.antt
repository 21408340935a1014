-- What is told of a request, over plain variables.
use Rattle.std.proofs.Common.{◌≡◌, ◌≢◌, ◌≤◌, ℕ, Bool, List, [], ◌∷◌, map, Option, Some, Result, Ok, Err, IfOk, Vec, Global, string_bytes, refl, sym, ap, subst}
use Rattle.std.proofs.Common.{◌∙◌, inl, inr, length}
use Rattle.graphql_spec.specs.Documents.{Document}
use Rattle.graphql_spec.specs.Inputs.{Variables}
use Rattle.graphql_spec.specs.Outcomes as outcome
use Rattle.graphql_spec.specs.Outcomes.{Request, Service, Response, refuses, responds, Reads, Becomes}
use Rattle.graphql_spec.specs.Requests as spec
use Rattle.graphql_spec.specs.Requests.{Refusal, refused}
use Rattle.graphql_spec.specs.Rules.{RuleError, rule_errors}
use Rattle.graphql_spec.specs.Shown.{Name, Text}
use Rattle.graphql_spec.proofs.Deciding.{steps-decide}
use Rattle.juniper.specs.Answering.{Responds, StandsFor, refusal_of}
use Rattle.juniper.specs.Budgets.{AnswersWithin, IsSpentOnly, RefusesWithin, RunsOver, SpendsOnly}
use Rattle.juniper.specs.Objections.{IsUnread, IsWithin, ObjectsToRead}
use Rattle.juniper.specs.Promised.{IsFullOutcome}
use Rattle.juniper.specs.RequestErrors.{RequestError, view_request_error, not_parsed, not_valid, no_operation, multiple_operations, unknown_operation}
use Rattle.juniper.specs.RequestErrors.{is_subscription, not_subscription, no_mutation_type, variable_not_constant, out_of_memory}
use Rattle.juniper.specs.declared.budget.Within.{Within}
use Rattle.juniper.specs.declared.budget.Within.TheVariants as within
use Rattle.juniper.specs.declared.prepared.Bounds.{Bounds}
use Rattle.juniper.specs.declared.prepared.Objection.{Objection}
use Rattle.juniper.specs.declared.prepared.Objection.TheVariants as objection
use Rattle.juniper_conversions.specs.ErrorView.{view_listed}
use Rattle.juniper_conversions.specs.declared.execution_error.ExecutionError.{ExecutionError}
use Rattle.juniper_http.specs.declared.endpoint.Reply.{Reply}
use Rattle.juniper_http.specs.declared.outcome.Outcome.{Outcome}
use Rattle.juniper_http.specs.declared.outcome.Outcome.TheVariants.{Refused, Writes, OutOfMemory}
use Rattle.juniper_json.specs.Refusals.{refusals_of}
use Rattle.juniper_json.specs.declared.read.VariablesError.{VariablesError}
use Rattle.juniper_json.specs.RefusalText as lines
use Rattle.juniper_json.specs.RefusalText.{explained_text, refusals_text}
use Rattle.juniper_schema.specs.SchemaView.{view_schema}
use Rattle.juniper_syntax.specs.RuleView.{view_rule_error}
use Rattle.juniper_request.specs.Requests.{Asked}
use Rattle.juniper_walk.specs.Budget.{fields_in, most_fields}
use Rattle.juniper_syntax.specs.Scalars.{default_shown}
use Rattle.juniper_syntax.specs.ValueView.{view_value}
use Rattle.juniper_syntax.specs.declared.scalar.DefaultScalarValue.{DefaultScalarValue}
use Rattle.juniper_syntax.specs.declared.value.Value.{Value}
use Rattle.juniper_endpoint.proofs.Explaining.{invalid-line, taken-line, unread-line}
use Rattle.juniper_endpoint.specs.Explained.{TellsRefusal}
use Rattle.juniper_endpoint.specs.Lines.{IsTold, bare_line, outcome_of, outcome_text, refused_outcome, writes_text}
use Rattle.juniper_endpoint.specs.Looks.{AreMisfits, ExplainsFor, IsAnswerTold, IsInvalidTold, IsObjected, IsSeen, IsStopTold}
use Rattle.juniper_endpoint.specs.Replied.{IsTaken, KeepsBounds, MayRun, Replies, given_among, refused_among, request_asked}
use Rattle.juniper_endpoint.specs.declared.explained.Explainer.{Explainer}
use Rattle.juniper_endpoint.specs.declared.look.Finding.{Finding}
use Rattle.juniper_endpoint.specs.declared.look.Finding.TheVariants as look

-- what a call of the executor within a budget answers
abbrev Answered : Type 0
Answered = Result (Value DefaultScalarValue × Vec (ExecutionError DefaultScalarValue) Global) Within

-- some response that is promised
by-error : (P : Response → Type 0) (e : RequestError) → Responds P e → (r : Response) × P r
by-error P out_of_memory p = (outcome.out_of_memory, p)
by-error P (not_parsed e) (r, is, p) = (refuses r, p)
by-error P (not_valid es) (r, is, p) = (refuses r, p)
by-error P no_operation (r, is, p) = (refuses r, p)
by-error P multiple_operations (r, is, p) = (refuses r, p)
by-error P unknown_operation (r, is, p) = (refuses r, p)
by-error P is_subscription (r, is, p) = (refuses r, p)
by-error P not_subscription (r, is, p) = (refuses r, p)
by-error P no_mutation_type (r, is, p) = (refuses r, p)
by-error P (variable_not_constant n) (r, is, p) = (refuses r, p)

by-stop : (P : Response → Type 0) (w : Within) → RefusesWithin P w → (r : Response) × P r
by-stop P (within.Refused e) p = by-error P (view_request_error e) p
by-stop P within.Spent p = (outcome.out_of_memory, p)

some-response : (P : Response → Type 0) (r : Answered) → AnswersWithin default_shown P r → (x : Response) × P x
some-response P (Ok p) full = (responds (view_value default_shown p.0) (map (view_listed default_shown) p.1.items), full)
some-response P (Err w) full = by-stop P w full

-- the request with these values is the one that is asked
pub request-same : (a : Asked) (t : Text) (v : Variables) → t ≡ a.query → v ≡ given_among a.variables →
    record { text = t; operation = a.operation_name; variables = v } ≡ request_asked a
request-same a t v e f = rw (e, f) refl

-- what is seen, of the same values
pub seen-so : (among rs : List (Name × VariablesError)) (w : Bool) (name : Option Name) (d : Document) (x y : Finding) → rs ≡ among → x ≡ y →
    IsSeen rs w name d x → IsSeen among w name d y
seen-so among rs w name d x y e f i = subst (IsSeen among w name d) f (subst (λ r. IsSeen r w name d x) e i)

-- what is told of an answer, by what explains for this service and of the request that is asked
pub told-of : {C N : Type 0} (S : Service C N) (q asked : Request) (d : Document) (x : Explainer) (r : Answered) (reply : Reply) → ExplainsFor S x →
    q ≡ asked → IsAnswerTold (view_schema default_shown x.schema.now) x.is_introspection_disabled x.most_bytes q d r reply →
    IsAnswerTold S.schema S.introspection_disabled x.most_bytes asked d r reply
told-of S q asked d x r reply explains same t =
    subst (λ p. IsAnswerTold S.schema S.introspection_disabled x.most_bytes p d r reply) same
    (subst (λ u. IsAnswerTold S.schema u x.most_bytes q d r reply) explains.1
    (subst (λ s. IsAnswerTold s x.is_introspection_disabled x.most_bytes q d r reply) explains.0 t))

module _ {C N : Type 0} (S : Service C N) (b : Bounds) (a : Asked) (most : ℕ) (w : Bool) (c : C) (fields : Option ℕ) where
  -- that memory is refused may be told
  abbrev Left : C → Type 0
  Left after = Replies S b a most w c fields OutOfMemory [] after

  -- the line tells an error
  abbrev TellsError : RequestError → Text → Type 0
  TellsError e line = TellsRefusal S.schema S.introspection_disabled most (request_asked a) e line

  -- a text that is within the bounds passes none
  within-keeps : (d : Document) → IsWithin b a.query d → KeepsBounds S b a
  within-keeps d within = (within.0.0, λ e reads. subst (IsWithin b a.query) (sym (within.0.1.1 e reads.0)) within)

  -- nor does one that is no document
  unread-keeps : length a.query ≤ b.bytes → (r : Refusal) → IsUnread b a.query r → KeepsBounds S b a
  unread-keeps low r (is, unread) = (low, λ d reads. absurd (unread d reads.0))

  objection-keeps : length a.query ≤ b.bytes → (e : RequestError) → StandsFor (IsUnread b a.query) e → (r : Refusal) → refusal_of e ≡ Some r → KeepsBounds S b a
  objection-keeps low out_of_memory u r none = absurd cc
  objection-keeps low (not_parsed e) (q, x, p) r is = unread-keeps low q p
  objection-keeps low (not_valid es) (q, x, p) r is = unread-keeps low q p
  objection-keeps low no_operation (q, x, p) r is = unread-keeps low q p
  objection-keeps low multiple_operations (q, x, p) r is = unread-keeps low q p
  objection-keeps low unknown_operation (q, x, p) r is = unread-keeps low q p
  objection-keeps low is_subscription (q, x, p) r is = unread-keeps low q p
  objection-keeps low not_subscription (q, x, p) r is = unread-keeps low q p
  objection-keeps low no_mutation_type (q, x, p) r is = unread-keeps low q p
  objection-keeps low (variable_not_constant n) (q, x, p) r is = unread-keeps low q p

  -- an error of the executor
  error-told : (after : C) → Left after → (e : RequestError) → ((r : Refusal) → refusal_of e ≡ Some r → KeepsBounds S b a) →
      Responds (λ r. IsFullOutcome S (request_asked a) c r after) e → (line : Text) → TellsError e line →
      Replies S b a most w c fields (refused_outcome e) line after
  error-told after left out_of_memory keeps p line tells = left
  error-told after left (not_parsed e) keeps (r, x, p) line tells = inl (keeps r x, (not_parsed e, r, x, p, tells))
  error-told after left (not_valid es) keeps (r, x, p) line tells = inl (keeps r x, (not_valid es, r, x, p, tells))
  error-told after left no_operation keeps (r, x, p) line tells = inl (keeps r x, (no_operation, r, x, p, tells))
  error-told after left multiple_operations keeps (r, x, p) line tells = inl (keeps r x, (multiple_operations, r, x, p, tells))
  error-told after left unknown_operation keeps (r, x, p) line tells = inl (keeps r x, (unknown_operation, r, x, p, tells))
  error-told after left is_subscription keeps (r, x, p) line tells = inl (keeps r x, (is_subscription, r, x, p, tells))
  error-told after left not_subscription keeps (r, x, p) line tells = inl (keeps r x, (not_subscription, r, x, p, tells))
  error-told after left no_mutation_type keeps (r, x, p) line tells = inl (keeps r x, (no_mutation_type, r, x, p, tells))
  error-told after left (variable_not_constant n) keeps (r, x, p) line tells = inl (keeps r x, (variable_not_constant n, r, x, p, tells))

  -- a reply that says so, or that memory is refused
  told : (after : C) → Left after → (o : Outcome) (line : Text) (reply : Reply) → IsTold o line reply →
      ((l : Text) → l ≡ line → Replies S b a most w c fields o l after) → Replies S b a most w c fields reply.outcome (string_bytes reply.line) after
  told after left o line reply (inl (is, says)) f =
      subst (λ x. Replies S b a most w c fields x (string_bytes reply.line) after) (sym is) (f (string_bytes reply.line) says)
  told after left o line reply (inr is) f = subst (λ x. Replies S b a most w c fields x (string_bytes reply.line) after) (sym is) left

  pub memory-told : (after : C) → after ≡ c → (reply : Reply) → reply.outcome ≡ OutOfMemory →
      Replies S b a most w c fields reply.outcome (string_bytes reply.line) after
  memory-told after same reply is = subst (λ x. Replies S b a most w c fields x (string_bytes reply.line) after) (sym is) (inl same)

  -- ## A request that is executed

  misfit-line : (d : Document) → IsTaken S b a d → (e : RequestError) (es : List lines.Refusal) →
      AreMisfits S.schema S.introspection_disabled most (request_asked a) d e es → (line : Text) → line ≡ explained_text (refusals_of e) es → TellsError e line
  misfit-line d taken e es are line is =
      taken-line S.schema S.introspection_disabled most (request_asked a) d taken.0.0.1 taken.1 e es are line is

  -- want of memory, behind what is promised
  left-by : MayRun S b a w → (after : C) (r : Answered) → AnswersWithin default_shown (λ x. IsFullOutcome S (request_asked a) c x after) r → Left after
  left-by may after r full = inr (may, some-response (λ x. IsFullOutcome S (request_asked a) c x after) r full)

  module _ (d : Document) (taken : IsTaken S b a d) where
    stop-told : MayRun S b a w → (after : C) (s : Within) → RefusesWithin (λ x. IsFullOutcome S (request_asked a) c x after) s →
        IsSpentOnly fields (RunsOver S (request_asked a) c) s → Left after → (reply : Reply) →
        IsStopTold S.schema S.introspection_disabled most (request_asked a) d s reply → Replies S b a most w c fields reply.outcome (string_bytes reply.line) after
    stop-told may after (within.Refused e) full only left reply (inl (es, are, t)) = told after left (refused_outcome (view_request_error e)) _ reply t
        (λ l is. error-told after left (view_request_error e) (λ r x. within-keeps d taken.0) full l
        (misfit-line d taken (view_request_error e) es are l is))
    stop-told may after (within.Refused e) full only left reply (inr is) = told after left OutOfMemory [] reply (inr is) (λ l same. left)
    stop-told may after within.Spent full only left reply t = told after left Refused _ reply t (λ l is. inr (inr (may, only, full, is)))

    pub answered-told : IsSeen (refused_among a.variables) w a.operation_name d look.Passes → (after : C) (r : Answered) →
        AnswersWithin default_shown (λ x. IsFullOutcome S (request_asked a) c x after) r →
        IfOk r (λ p. fields_in (view_value default_shown p.0) ≤ most_fields fields) → SpendsOnly fields (RunsOver S (request_asked a) c) r → (reply : Reply) →
        IsAnswerTold S.schema S.introspection_disabled most (request_asked a) d r reply →
        Replies S b a most w c fields reply.outcome (string_bytes reply.line) after
    answered-told free after (Ok p) full few only reply t =
        let may : MayRun S b a w = (d, taken, free) in
        told after (left-by may after (Ok p) full) (outcome_of (Ok p)) (outcome_text (Ok p)) reply t
        (λ l is. (may, (view_value default_shown p.0, map (view_listed default_shown) p.1.items, full, is, few)))
    answered-told free after (Err s) full few only reply t =
        let may : MayRun S b a w = (d, taken, free) in stop-told may after s full only (left-by may after (Err s) full) reply t

  -- ## A text that is objected to

  unread-becomes : (r : Refusal) → IsUnread b a.query r → Becomes S (request_asked a) (refused r)
  unread-becomes r (is, unread) = subst (λ z. Becomes S (request_asked a) (refused z)) (sym is) ((steps-decide S).unread (request_asked a) unread)

  refusal-full : (e : RequestError) → StandsFor (IsUnread b a.query) e → Responds (λ r. IsFullOutcome S (request_asked a) c r c) e
  refusal-full out_of_memory u = ((inl refl, tt), tt)
  refusal-full (not_parsed e) (r, is, p) = (r, is, (((unread-becomes r p, refl), tt), tt))
  refusal-full (not_valid es) (r, is, p) = (r, is, (((unread-becomes r p, refl), tt), tt))
  refusal-full no_operation (r, is, p) = (r, is, (((unread-becomes r p, refl), tt), tt))
  refusal-full multiple_operations (r, is, p) = (r, is, (((unread-becomes r p, refl), tt), tt))
  refusal-full unknown_operation (r, is, p) = (r, is, (((unread-becomes r p, refl), tt), tt))
  refusal-full is_subscription (r, is, p) = (r, is, (((unread-becomes r p, refl), tt), tt))
  refusal-full not_subscription (r, is, p) = (r, is, (((unread-becomes r p, refl), tt), tt))
  refusal-full no_mutation_type (r, is, p) = (r, is, (((unread-becomes r p, refl), tt), tt))
  refusal-full (variable_not_constant n) (r, is, p) = (r, is, (((unread-becomes r p, refl), tt), tt))

  pub objection-told : (e : Objection) → ObjectsToRead b a.query e → (reply : Reply) → IsObjected e reply →
      Replies S b a most w c fields reply.outcome (string_bytes reply.line) c
  objection-told objection.TooLong o reply t = told c (inl refl) Refused _ reply t (λ l is. inr (inl (refl, inl (objection.TooLong, tt, o, is))))
  objection-told objection.TooManyFields o reply t = told c (inl refl) Refused _ reply t (λ l is. inr (inl (refl, inl (objection.TooManyFields, tt, o, is))))
  objection-told objection.TooDeep o reply t = told c (inl refl) Refused _ reply t (λ l is. inr (inl (refl, inl (objection.TooDeep, tt, o, is))))
  objection-told (objection.Refused e) o reply t = told c (inl refl) _ _ reply t (λ l is.
      error-told c (inl refl) (view_request_error e) (objection-keeps o.0 (view_request_error e) o.1) (refusal-full (view_request_error e) o.1) l
      (unread-line S.schema S.introspection_disabled most (request_asked a) b (view_request_error e) o.1 l is))

  -- ## A document that breaks rules

  pub invalid-told : (d : Document) → IsWithin b a.query d → (es : List RuleError) → es ≡ rule_errors S.schema S.introspection_disabled d → es ≢ [] →
      (reply : Reply) → IsInvalidTold S.schema S.introspection_disabled most a.query es d reply →
      Replies S b a most w c fields reply.outcome (string_bytes reply.line) c
  invalid-told d within [] found some reply t = absurd (some refl)
  invalid-told d within (x ∷ xs) found some reply t = told c (inl refl) Refused _ reply t (λ l is.
      inl (
        within-keeps d within,
        (
          not_valid (x ∷ xs),
          spec.not_valid (x ∷ xs),
          refl,
          ((((steps-decide S).invalid (request_asked a) d within.0.1 x xs (sym found), refl), tt), tt),
          invalid-line S.schema S.introspection_disabled most (request_asked a) d within.0.1 x xs (sym found) l is,
        ),
      ))

  -- ## What a look shows

  module _ (d : Document) (taken : IsTaken S b a d) where
    pub seen-writes : IsSeen (refused_among a.variables) w a.operation_name d look.Writes → (reply : Reply) → IsTold Writes (bare_line writes_text) reply →
        Replies S b a most w c fields reply.outcome (string_bytes reply.line) c
    seen-writes (o, choice, (reads, kind)) reply t = told c (inl refl) Writes _ reply t (λ l is. (refl, reads, (d, o, (taken, choice), kind), is))

    pub seen-unfitting : (errors : Vec _ Global) → IsSeen (refused_among a.variables) w a.operation_name d (look.Unfitting errors) → (reply : Reply) →
        IsTold Refused (refusals_text (refusals_of (not_valid (map view_rule_error errors.items)))) reply →
        Replies S b a most w c fields reply.outcome (string_bytes reply.line) c
    seen-unfitting errors (o, choice, (some, same)) reply t = told c (inl refl) Refused _ reply t
        (λ l is. inr (inl (refl, inr (d, o, (taken, choice), some, is ∙ ap (λ es. refusals_text (refusals_of (not_valid es))) same))))
