-- What is answered to a request, over plain variables.
use Rattle.std.proofs.Common.{◌≡◌, ◌≢◌, ◌≤◌, ℕ, Bool, false, [], length, None, Some, Ok, Err, Vec, Global, refl, sym, subst, inl, inr}
use Rattle.graphql_spec.specs.Documents.{Document}
use Rattle.graphql_spec.specs.Rules.{rule_errors}
use Rattle.graphql_spec.specs.Schema.{Schema}
use Rattle.graphql_spec.specs.Outcomes as memory
use Rattle.graphql_spec.specs.Outcomes.{Request, Response, Service, Becomes, Reads, refuses}
use Rattle.graphql_spec.specs.Requests.{Refusal, refused}
use Rattle.graphql_spec.specs.Shown.{Shown, Text}
use Rattle.graphql_spec.proofs.Deciding.{steps-decide}
use Rattle.juniper.specs.Answering.{AnswersAs, Responds, StandsFor}
use Rattle.juniper.specs.Budgets.{IsSpentOnly, RefusesWithin, error_of}
use Rattle.juniper.specs.Objections.{IsAccepted, IsRefusal, Objects, has_more_fields, has_more_levels}
use Rattle.juniper.specs.Promised.{IsFullOutcome}
use Rattle.juniper.specs.RequestErrors.{RequestError, view_request_error, not_parsed, not_valid, no_operation, multiple_operations, unknown_operation}
use Rattle.juniper.specs.RequestErrors.{is_subscription, not_subscription, no_mutation_type, variable_not_constant, out_of_memory}
use Rattle.juniper.specs.declared.budget.Within.{Within}
use Rattle.juniper.specs.declared.budget.Within.TheVariants as within
use Rattle.juniper.specs.declared.error.GraphQLError.{GraphQLError}
use Rattle.juniper.specs.declared.prepared.Bounds.{Bounds}
use Rattle.juniper.specs.declared.prepared.Objection.{Objection}
use Rattle.juniper.specs.declared.prepared.Objection.TheVariants as objection
use Rattle.juniper_conversions.specs.declared.execution_error.ExecutionError.{ExecutionError}
use Rattle.juniper_syntax.specs.declared.value.Value.{Value}
use Rattle.juniper_cache.specs.Answers.{IsAnswer}
use Rattle.juniper_cache.specs.Texts.{IsAdmitted}

-- an error that stands for refusals is answered as they are
pub stands-responds : (P : Refusal → Type 0) (Q : Response → Type 0) → ((r : Refusal) → P r → Q (refuses r)) → Q memory.out_of_memory →
    (e : RequestError) → StandsFor P e → Responds Q e
stands-responds P Q f m out_of_memory u = m
stands-responds P Q f m (not_parsed e) (r, is, p) = (r, is, f r p)
stands-responds P Q f m (not_valid es) (r, is, p) = (r, is, f r p)
stands-responds P Q f m no_operation (r, is, p) = (r, is, f r p)
stands-responds P Q f m multiple_operations (r, is, p) = (r, is, f r p)
stands-responds P Q f m unknown_operation (r, is, p) = (r, is, f r p)
stands-responds P Q f m is_subscription (r, is, p) = (r, is, f r p)
stands-responds P Q f m not_subscription (r, is, p) = (r, is, f r p)
stands-responds P Q f m no_mutation_type (r, is, p) = (r, is, f r p)
stands-responds P Q f m (variable_not_constant n) (r, is, p) = (r, is, f r p)

module _ {C N : Type 0} (service : Service C N) (q : Request) (c : C) where
  -- an error that stands for refusals which the request becomes is what `execute_sync` answers
  pub ends-full : (P : Refusal → Type 0) → ((r : Refusal) → P r → Becomes service q (refused r)) → (e : RequestError) → StandsFor P e →
      Responds (λ r. IsFullOutcome service q c r c) e
  ends-full P becomes = stands-responds P (λ r. IsFullOutcome service q c r c) (λ r p. (((becomes r p, refl), tt), tt)) ((inl refl, tt), tt)

module _ {C N S : Type 0} (service : Service C N) (b : Bounds) (shown : S → Shown) (q : Request) (c : C) where
  refusal-becomes : (r : Refusal) → IsRefusal b q.text service.schema service.introspection_disabled r → Becomes service q (refused r)
  refusal-becomes r (inl (is, unread)) = subst (λ z. Becomes service q (refused z)) (sym is) ((steps-decide service).unread q unread)
  refusal-becomes r (inr (d, within, (x, xs, is, found))) =
      subst (λ z. Becomes service q (refused z)) (sym is) ((steps-decide service).invalid q d within.0.1 x xs found)

  -- what is against a text is told
  pub objection-told : (e : Objection) → Objects b q.text service.schema service.introspection_disabled e → IsAnswer service b shown q c (Err e) c
  objection-told objection.TooLong o = (refl, o)
  objection-told objection.TooManyFields o = (refl, o)
  objection-told objection.TooDeep o = (refl, o)
  objection-told (objection.Refused e) o =
      ends-full service q c (IsRefusal b q.text service.schema service.introspection_disabled) refusal-becomes (view_request_error e) o.1

  -- what is answered of a text that is admitted, and was read
  pub admitted-told : (after : C) (p : Value S × Vec (ExecutionError S) Global) → length q.text ≤ b.bytes →
      IsAdmitted b service.schema service.introspection_disabled q.text → ((d : Document) × Reads q.text (Some d)) →
      AnswersAs shown (λ r. IsFullOutcome service q c r after) (Ok p) → IsAnswer service b shown q c (Ok p) after
  admitted-told after p short admitted (d, read) answered =
      let fits = admitted.1 d read in ((d, (((short, read), fits.0, fits.1), fits.2)), answered)

-- a document that is accepted admits its text
pub accepted-admits : (b : Bounds) (t : Text) (s : Schema) (disabled : Bool) (d : Document) → IsAccepted b t s disabled d → IsAdmitted b s disabled t
accepted-admits b t s disabled d a = (
  λ unread. unread d a.0.0.1.0,
  λ e read. subst (λ x. (has_more_fields b.fields x ≡ false) × (has_more_levels b.levels x ≡ false) × (rule_errors s disabled x ≡ []))
      (sym (a.0.0.1.1 e read.0)) (a.0.1, a.0.2, a.1),
)

-- what is told of a document that is read from one text for one root is told of another, where both are the same
pub told-of : {R : Type 0} (A G : R → Text → Type 0) (r s : R) (t u : Text) → s ≡ r → u ≡ t → G r t → (G s u → A s u) → A r t
told-of A G r s t u e f g h = subst (λ x. A x t) e (subst (λ x. A s x) f (h (subst (λ x. G s x) (sym f) (subst (λ x. G x t) (sym e) g))))

-- what is told of one root and bounds is told of the same by other names
pub moved : {R : Type 0} (A : R → Bounds → Type 0) (r s : R) (b d : Bounds) → s ≡ r → d ≡ b → A s d → A r b
moved A r s b d e f a = subst (λ x. A x b) e (subst (λ x. A s x) f a)

-- where no budget is given, none is spent
pub unspent : (over : ℕ → Type 0) (w : Within) → IsSpentOnly None over w → w ≢ within.Spent
unspent over (within.Refused e) only = λ is. cc
unspent over within.Spent only = λ is. let none : None ≡ Some only.0 = only.1 in absurd cc

-- and what is answered is the error of what refuses it
pub without-budget : (P : Response → Type 0) (w : Within) (e : GraphQLError) → e ≡ error_of w → RefusesWithin P w → Responds P (view_request_error e)
without-budget P w e is p = subst (λ x. Responds P (view_request_error x)) (sym is) (go w p)
  where
    go : (w : Within) → RefusesWithin P w → Responds P (view_request_error (error_of w))
    go (within.Refused e) p = p
    go within.Spent p = p
