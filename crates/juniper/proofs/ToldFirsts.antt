-- Lists that tell each failure for the first of its field's occurrences, from a walk to a response (7.1.2).
use Rattle.std.proofs.Common.{◌≡◌, Bool, false, IsTrue, List, [], map, sym, ap, ◌∙◌, subst}
use Rattle.graphql_spec.specs.Shown.{Name}
use Rattle.graphql_spec.specs.Values.{Value, is_null}
use Rattle.graphql_spec.specs.Inputs.{Variables}
use Rattle.graphql_spec.specs.Documents.{Document, Operation, OperationType, query, mutation, subscription}
use Rattle.graphql_spec.specs.Errors.{Place, Listed, is_sorted}
use Rattle.graphql_spec.specs.Selections.{Forest}
use Rattle.graphql_spec.specs.Types.{named}
use Rattle.graphql_spec.specs.Resolvers.{World}
use Rattle.graphql_spec.specs.Execution.{data_of}
use Rattle.graphql_spec.specs.Failures.{Failure, failures_of}
use Rattle.graphql_spec.specs.Nulls.{null_or, nulls_of}
use Rattle.graphql_spec.specs.Mutation.{mutation_run, mutation_nulls}
use Rattle.graphql_spec.specs.Walk.{Met, count_listed}
use Rattle.graphql_spec.specs.Requests.{Outcome, of_document, runs, selected}
use Rattle.graphql_spec.specs.GroupLaws.{for_picked, first_start}
use Rattle.graphql_spec.specs.Outcomes.{Request, Response, Service, Steps, Becomes, HasMutation, mutation_in, out_of_memory, refuses, responds}
use Rattle.graphql_spec.specs.Outcomes.{world_in}
use Rattle.graphql_spec.specs.OutcomeLaws.{FailIn, StandIn}
use Rattle.graphql_spec.specs.ExactAnswers.{whole, TellsExactly}
use Rattle.graphql_spec.proofs.Answered.{is_answer}
use Rattle.graphql_spec.proofs.Exact.{exact-tells, walks-exact-answer}
use Rattle.graphql_spec.proofs.OneOutcome.{reads-one, same-mutation}
use Rattle.juniper.specs.Promised.{ListsFirsts}

-- ## Of a walk

-- what was listed so of a whole request, once it is sorted
pub listed-tells : {N : Type 0} (W : World N) (T : Name) (m : N) (s : Forest) (v : Value) (es ds : List Listed) → v ≡ data_of W T m s →
    Met whole (is_null v) es (map (for_picked first_start) (failures_of W [] [] T m s)) [] (nulls_of W [] T m s) →
    ((p : Listed → Bool) → count_listed p ds ≡ count_listed p es) → IsTrue (is_sorted ds) →
    TellsExactly ds (map (for_picked first_start) (failures_of W [] [] T m s)) (null_or [] (named false []) (data_of W T m s) (nulls_of W [] T m s))
listed-tells W T m s v es ds e met same sorted = exact-tells (data_of W T m s) v (map (for_picked first_start) (failures_of W [] [] T m s)) _ ds
    (is_answer whole v (data_of W T m s) _ _ es ds e met same sorted) ((walks-exact-answer W T m s v es ds e same sorted).1 met).1

-- ## To a response

one-run : (d e : Document) (o p : Operation) (v w : Variables) → runs d o v ≡ runs e p w → (d ≡ e) × (o ≡ p) × (v ≡ w)
one-run d e o p v w q = (cc, cc, cc)

-- the same list, of the same failures and nulls by other names
told-moves : (es : List Listed) (fs gs : List Failure) (ps rs : List Place) → fs ≡ gs → ps ≡ rs → TellsExactly es (map (for_picked first_start) gs) rs →
    TellsExactly es (map (for_picked first_start) fs) ps
told-moves es fs gs ps rs e f t = subst (λ z. TellsExactly es (map (for_picked first_start) fs) z) (sym f)
    (subst (λ z. TellsExactly es (map (for_picked first_start) z) rs) (sym e) t)

module _ {C N : Type 0} (S : Service C N) (c : C) where
  -- what is told of the operation that runs is told whatever operation runs
  pub told-of-run : (x : Outcome) (d : Document) (o : Operation) (vars : Variables) → x ≡ runs d o vars → (v : Value) (es : List Listed) →
      ((fs : List Failure) (stands : List Place) → FailIn S o.kind vars (selected d o vars) c fs → StandIn S o.kind vars (selected d o vars) c stands →
      TellsExactly es (map (for_picked first_start) fs) stands) → ListsFirsts S (λ y. y ≡ x) c (responds v es)
  told-of-run x d o vars is v es tells e p given r fs stands fail stand =
      let one = one-run e d p o given vars (r ∙ is) in
      tells fs stands
      (subst (λ z. FailIn S o.kind vars (selected z o vars) c fs) one.0 (subst (λ (z : Operation). FailIn S z.kind vars (selected e z vars) c fs) one.1
      (subst (λ z. FailIn S p.kind z (selected e p z) c fs) one.2 fail)))
      (subst (λ z. StandIn S o.kind vars (selected z o vars) c stands) one.0
      (subst (λ (z : Operation). StandIn S z.kind vars (selected e z vars) c stands) one.1
      (subst (λ z. StandIn S p.kind z (selected e p z) c stands) one.2 stand)))

  module _ (vars : Variables) (s : Forest) (es : List Listed) where
    -- what is told of a query
    pub query-told : (k : OperationType) → k ≡ query → TellsExactly es (map (for_picked first_start)
        (failures_of (world_in S vars c) [] [] S.schema.query S.root s)) (null_or [] (named false []) (data_of (world_in S vars c) S.schema.query S.root s)
        (nulls_of (world_in S vars c) [] S.schema.query S.root s)) →
        (fs : List Failure) (stands : List Place) → FailIn S k vars s c fs → StandIn S k vars s c stands →
        TellsExactly es (map (for_picked first_start) fs) stands
    query-told query e t fs stands fail stand = told-moves es fs _ stands _ fail stand t
    query-told mutation e t fs stands fail stand = cc
    query-told subscription e t fs stands fail stand = cc

    -- what is told of a mutation
    pub mutation-told : (m : Steps C N) (T : Name) → HasMutation S m T → (k : OperationType) → k ≡ mutation →
        TellsExactly es (map (for_picked first_start) (mutation_run (mutation_in S m vars) T s c).failures) (mutation_nulls (mutation_in S m vars) T s c) →
        (fs : List Failure) (stands : List Place) → FailIn S k vars s c fs → StandIn S k vars s c stands →
        TellsExactly es (map (for_picked first_start) fs) stands
    mutation-told m T has query e t fs stands fail stand = cc
    mutation-told m T has mutation e t fs stands (n, U, h, f) (l, X, g, p) =
        let one = same-mutation S n m U T h has in
        let two = same-mutation S l m X T g has in
        let f' : fs ≡ (mutation_run (mutation_in S m vars) T s c).failures = f ∙ (ap (λ z. (mutation_run (mutation_in S z vars) U s c).failures) one.0
        ∙ ap (λ z. (mutation_run (mutation_in S m vars) z s c).failures) one.1) in
        let p' : stands ≡ mutation_nulls (mutation_in S m vars) T s c = p ∙ (ap (λ z. mutation_nulls (mutation_in S z vars) X s c) two.0
        ∙ ap (λ z. mutation_nulls (mutation_in S m vars) z s c) two.1) in
        told-moves es fs _ stands _ f' p' t
    mutation-told m T has subscription e t fs stands fail stand = cc

module _ {C N : Type 0} (S : Service C N) (c : C) (q : Request) where
  becomes-alike : (x y : Outcome) → Becomes S q x → Becomes S q y → x ≡ y
  becomes-alike x y a b =
      sym a.2 ∙ (ap (of_document S.schema S.introspection_disabled q.operation q.variables) (reads-one q.text a.0 b.0 a.1 b.1) ∙ b.2)

  -- what is told where it is known what becomes of the request
  pub firsts-become : (x : Outcome) → Becomes S q x → (r : Response) → ListsFirsts S (λ y. y ≡ x) c r → ListsFirsts S (Becomes S q) c r
  firsts-become x k (refuses y) l = tt
  firsts-become x k (responds v es) l = λ d o vars b. l d o vars (becomes-alike (runs d o vars) x b k)
  firsts-become x k out_of_memory l = tt
