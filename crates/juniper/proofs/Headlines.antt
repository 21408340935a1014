-- What is promised of a request, part by part.
use Rattle.std.proofs.Common.{◌≡◌, ◌⊎◌, false, IsTrue, List, [], map, refl, sym, ap, ◌∙◌, inl, inr, subst}
use Rattle.graphql_spec.specs.Values.{Value}
use Rattle.graphql_spec.specs.Inputs.{Variables}
use Rattle.graphql_spec.specs.Documents.{OperationType, query, mutation, subscription}
use Rattle.graphql_spec.specs.Errors.{Place, Listed, is_sorted}
use Rattle.graphql_spec.specs.Selections.{Forest}
use Rattle.graphql_spec.specs.Types.{named}
use Rattle.graphql_spec.specs.Execution.{data_of}
use Rattle.graphql_spec.specs.Failures.{Failure, failures_of}
use Rattle.graphql_spec.specs.Nulls.{null_or, nulls_of}
use Rattle.graphql_spec.specs.Mutation.{mutation_run, mutation_nulls}
use Rattle.graphql_spec.specs.Laws.{In}
use Rattle.graphql_spec.specs.Requests.{Refusal, selected}
use Rattle.graphql_spec.specs.GroupLaws.{for_picked, first_start}
use Rattle.graphql_spec.specs.Outcomes.{Request, Service, Response, refuses, responds, out_of_memory, Becomes, IsExecuted, IsOutcome, world_in}
use Rattle.graphql_spec.specs.Outcomes.{mutation_in}
use Rattle.graphql_spec.specs.OutcomeLaws.{FailIn, StandIn}
use Rattle.graphql_spec.specs.ExactAnswers.{whole, TellsExactly, IsErrorOf}
use Rattle.graphql_spec.proofs.FirstOccurrences.{first-start, picked-of}
use Rattle.graphql_spec.proofs.OneOutcome.{executed, errors-where-failures}
use Rattle.juniper.specs.Promised.{IsFullOutcome, ListsFirsts}
use Rattle.juniper.specs.Headline.{IsPlacedErrorOf, DataIn, ContextIn, Ran, Headline}

-- ## What is told at the first of a field's occurrences

-- a failure that is told for the first of its field's occurrences is one of those that are told for all
placed-error : (x : Listed) (f : Failure) → IsErrorOf x (for_picked first_start f) → IsPlacedErrorOf x f
unfolding for_picked
placed-error x f (p, e, s) = (p, e, first-start x.start f.starts s)

placed : (x : Listed) (g : Failure) (fs : List Failure) → In g (map (for_picked first_start) fs) → IsErrorOf x g →
    (f : Failure) × In f fs × IsPlacedErrorOf x f × (g.rises_to ≡ f.rises_to)
unfolding for_picked
placed x g fs i e = let r = picked-of g fs i in
    (r.0, r.1, placed-error x r.0 (subst (λ z. IsErrorOf x z) r.2 e), ap (λ (z : Failure). z.rises_to) r.2)

-- ## By the kind of the operation

module _ {C N : Type 0} (S : Service C N) where
  data-executed : (k : OperationType) (vars : Variables) (s : Forest) (c after : C) (v : Value) (es : List Listed) → IsExecuted S whole k vars s c v es after →
      DataIn S k vars s c v
  data-executed query vars s c after v es x = x.0.is_data
  data-executed mutation vars s c after v es x = (x.0, x.1, x.2, x.3.answer.is_data)
  data-executed subscription vars s c after v es x = absurd x

  sorted-executed : (k : OperationType) (vars : Variables) (s : Forest) (c after : C) (v : Value) (es : List Listed) →
      IsExecuted S whole k vars s c v es after → IsTrue (is_sorted es)
  sorted-executed query vars s c after v es x = x.0.sorted
  sorted-executed mutation vars s c after v es x = x.3.answer.sorted
  sorted-executed subscription vars s c after v es x = absurd x

  query-executed : (k : OperationType) (vars : Variables) (s : Forest) (c after : C) (v : Value) (es : List Listed) →
      IsExecuted S whole k vars s c v es after → k ≡ query → after ≡ c
  query-executed query vars s c after v es x e = x.1
  query-executed mutation vars s c after v es x e = cc
  query-executed subscription vars s c after v es x e = absurd x

  mutation-executed : (k : OperationType) (vars : Variables) (s : Forest) (c after : C) (v : Value) (es : List Listed) →
      IsExecuted S whole k vars s c v es after → k ≡ mutation → ContextIn S vars s c after
  mutation-executed query vars s c after v es x e = cc
  mutation-executed mutation vars s c after v es x e = (x.0, x.1, x.2, x.3.context)
  mutation-executed subscription vars s c after v es x e = absurd x

  -- what fails in an operation, and which nulls stand for it
  failures-known : (k : OperationType) (vars : Variables) (s : Forest) (c after : C) (v : Value) (es : List Listed) →
      IsExecuted S whole k vars s c v es after → (fs : List Failure) × (stands : List Place) × FailIn S k vars s c fs × StandIn S k vars s c stands
  failures-known query vars s c after v es x = (
    failures_of (world_in S vars c) [] [] S.schema.query S.root s,
    null_or [] (named false []) (data_of (world_in S vars c) S.schema.query S.root s) (nulls_of (world_in S vars c) [] S.schema.query S.root s),
    refl,
    refl,
  )
  failures-known mutation vars s c after v es x = (
    (mutation_run (mutation_in S x.0 vars) x.1 s c).failures,
    mutation_nulls (mutation_in S x.0 vars) x.1 s c,
    (x.0, x.1, x.2, refl),
    (x.0, x.1, x.2, refl),
  )
  failures-known subscription vars s c after v es x = absurd x

  module _ (q : Request) (c after : C) (r : Response) (is : IsFullOutcome S q c r after) where
    ran-executed : (x : Ran S q c r) → IsExecuted S whole x.operation.kind x.variables (selected x.document x.operation x.variables) c x.value x.errors after
    ran-executed x = executed S whole q x.document x.operation x.variables x.becomes c after x.value x.errors
        (subst (λ z. IsOutcome S whole q c z after) x.answered is.0.0)

    ran-tells : (x : Ran S q c r) → TellsExactly x.errors (map (for_picked first_start) x.failures) x.nulls
    ran-tells x = (subst (λ z. ListsFirsts S (Becomes S q) c z) x.answered is.1) x.document x.operation x.variables x.becomes x.failures x.nulls x.fail x.stand

  ends-of : (q : Request) (c after : C) (r : Response) → IsFullOutcome S q c r after → ((y : Refusal) × (r ≡ refuses y)) ⊎ (Ran S q c r ⊎ (r ≡ out_of_memory))
  ends-of q c after (refuses y) x = inl (y, refl)
  ends-of q c after out_of_memory x = inr (inr refl)
  ends-of q c after (responds v es) x =
      let o = x.0.0 in
      let k = failures-known o.1.kind o.2 (selected o.0 o.1 o.2) c after v es o.4 in
      inr (inl (record {
        document = o.0;
        operation = o.1;
        variables = o.2;
        becomes = o.3;
        value = v;
        errors = es;
        answered = refl;
        failures = k.0;
        fail = k.2;
        nulls = k.1;
        stand = k.3;
      }))

  pub headline-holds : (q : Request) (c : C) (r : Response) (after : C) → IsFullOutcome S q c r after → Headline S q c r after
  headline-holds q c r after is = record {
    ends = ends-of q c after r is;
    refused_first = λ y e. subst (λ z. IsOutcome S whole q c z after) e is.0.0;
    data_is = λ x. data-executed x.operation.kind x.variables _ c after x.value x.errors (ran-executed q c after r is x);
    belongs = λ x e i. let b = (ran-tells q c after r is x).belongs e i in let p = placed e b.0 x.failures b.1 b.2 in (p.0, p.1, p.2);
    sorted = λ x. sorted-executed x.operation.kind x.variables _ c after x.value x.errors (ran-executed q c after r is x);
    once = λ x. (ran-tells q c after r is x).once;
    none = λ x. errors-where-failures S whole q x.document x.operation x.variables x.becomes c after x.value x.errors
        (subst (λ z. IsOutcome S whole q c z after) x.answered is.0.0) x.failures x.fail;
    explained = λ x to i. let b = (ran-tells q c after r is x).explained to i in let p = placed b.0 b.2.0 x.failures b.2.1 b.2.2 in
        (b.0, b.1, (p.0, p.1, p.2, sym p.3 ∙ b.2.3));
    query_context = λ x e. query-executed x.operation.kind x.variables _ c after x.value x.errors (ran-executed q c after r is x) e;
    mutation_context = λ x e. mutation-executed x.operation.kind x.variables _ c after x.value x.errors (ran-executed q c after r is x) e;
    memory_context = λ e. subst (λ z. IsOutcome S whole q c z after) e is.0.0;
  }
