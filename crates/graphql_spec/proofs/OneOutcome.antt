-- What holds of each outcome.
use Rattle.std.proofs.Common.{◌≡◌, ◌↔◌, false, List, [], ◌∷◌, Option, None, Some, refl, sym, ap, ◌∙◌, inl, inr, subst}
use Rattle.graphql_spec.specs.Shown.{Text, Name}
use Rattle.graphql_spec.specs.Values.{Value, null, is_null}
use Rattle.graphql_spec.specs.Types.{named, required}
use Rattle.graphql_spec.specs.Inputs.{Variables}
use Rattle.graphql_spec.specs.Documents.{Document, Operation, OperationType, query, mutation, subscription}
use Rattle.graphql_spec.specs.Errors.{Place, Listed}
use Rattle.graphql_spec.specs.Selections.{Forest, keys}
use Rattle.graphql_spec.specs.Execution.{data_of}
use Rattle.graphql_spec.specs.Failures.{Failure, failures_of}
use Rattle.graphql_spec.specs.Nulls.{null_or, nulls_of}
use Rattle.graphql_spec.specs.Mutation.{Mutation, data_of_run, run_nulls, root_fields, mutation_run}
use Rattle.graphql_spec.specs.Laws.{In, pairs}
use Rattle.graphql_spec.specs.Walk.{told, IsAnswer, IsMutationAnswerFor}
use Rattle.graphql_spec.specs.Requests.{Refusal, Outcome, refused, runs, of_document, selected}
use Rattle.graphql_spec.proofs.Started.{failures_have_pairs}
use Rattle.graphql_spec.specs.Outcomes.{Request, Steps, Service, refuses, responds, out_of_memory, Reads, Becomes, world_in, mutation_in, HasMutation}
use Rattle.graphql_spec.specs.Outcomes.{IsExecuted, IsOutcome}
use Rattle.graphql_spec.specs.OutcomeLaws.{OutcomeIsOne, QueryLeaves, RefusalLeaves, FailIn, ErrorsWhereFailures, NullHasError}
use Rattle.graphql_spec.proofs.StartedRuns.{run-has-pairs}

pub reads-one : (text : Text) (d e : Option Document) → Reads text d → Reads text e → d ≡ e
reads-one text None None a b = refl
reads-one text None (Some e) a b = absurd (a e b.0)
reads-one text (Some d) None a b = absurd (b d a.0)
reads-one text (Some d) (Some e) a b = ap Some (b.1 d a.0)

same-runs : (d e : Document) (o p : Operation) (v w : Variables) → runs d o v ≡ runs e p w → (d ≡ e) × (o ≡ p) × (v ≡ w)
same-runs d e o p v w q = (cc, cc, cc)

runs-refused : {A : Type 0} (d : Document) (o : Operation) (v : Variables) (r : Refusal) → runs d o v ≡ refused r → A
runs-refused d o v r q = cc

same-refusal : (r s : Refusal) → refused r ≡ refused s → r ≡ s
same-refusal r s q = cc

same-some : {A : Type 0} (x y : A) → Some x ≡ Some y → x ≡ y
same-some x y q = cc

null-explained : (tell : Place → Place) (data' : Value) (fs : List Failure) (stands : List Place) (es : List Listed) →
    IsAnswer tell data' fs (null_or [] (named false []) data' stands) null es → es ≡ [] → ⊥
unfolding null_or is_null required
null-explained tell data' fs stands es a none =
    let e : null ≡ data' = a.is_data in
    let t = a.explained [] (subst (λ z. In [] (null_or [] (named false []) z stands)) e (inl refl)) in
    subst (λ z. In (told tell t.0) z) none t.3

module _ {C N : Type 0} (S : Service C N) where
  becomes-one : (q : Request) (x y : Outcome) → Becomes S q x → Becomes S q y → x ≡ y
  becomes-one q x y a b =
      sym a.2 ∙ (ap (of_document S.schema S.introspection_disabled q.operation q.variables) (reads-one q.text a.0 b.0 a.1 b.1) ∙ b.2)

  pub same-mutation : (m n : Steps C N) (T U : Name) → HasMutation S m T → HasMutation S n U → (m ≡ n) × (T ≡ U)
  same-mutation m n T U a b = (same-some m n (sym a.0 ∙ b.0), same-some T U (sym a.1 ∙ b.1))

  executed-one : (tell : Place → Place) (k : OperationType) (vars : Variables) (s : Forest) (c : C) (u v : Value) (ds es : List Listed) (a b : C) →
      IsExecuted S tell k vars s c u ds a → IsExecuted S tell k vars s c v es b → (u ≡ v) × (a ≡ b)
  executed-one tell query vars s c u v ds es a b x y = (x.0.is_data ∙ sym y.0.is_data, x.1 ∙ sym y.1)
  executed-one tell mutation vars s c u v ds es a b x y =
      let e = same-mutation x.0 y.0 x.1 y.1 x.2 y.2 in
      let z : IsMutationAnswerFor (mutation_in S x.0 vars) x.1 tell s c v es b = subst (λ w. IsMutationAnswerFor (mutation_in S x.0 vars) w tell s c v es b)
      (sym e.1) (subst (λ w. IsMutationAnswerFor (mutation_in S w vars) y.1 tell s c v es b) (sym e.0) y.3) in
      (x.3.answer.is_data ∙ sym z.answer.is_data, x.3.context ∙ sym z.context)
  executed-one tell subscription vars s c u v ds es a b x y = absurd x

  -- a response, of the operation that runs
  pub executed : (tell : Place → Place) (q : Request) (d : Document) (o : Operation) (vars : Variables) → Becomes S q (runs d o vars) →
      (c after : C) (v : Value) (es : List Listed) →
      IsOutcome S tell q c (responds v es) after → IsExecuted S tell o.kind vars (selected d o vars) c v es after
  executed tell q d o vars k c after v es x =
      let e = same-runs x.0 d x.1 o x.2 vars (becomes-one q (runs x.0 x.1 x.2) (runs d o vars) x.3 k) in
      subst (λ z. IsExecuted S tell o.kind vars (selected z o vars) c v es after) e.0
      (subst (λ z. IsExecuted S tell z.kind vars (selected x.0 z vars) c v es after) e.1
      (subst (λ z. IsExecuted S tell x.1.kind z (selected x.0 x.1 z) c v es after) e.2 x.4))

  pub outcome-is-one : OutcomeIsOne S
  outcome-is-one tell q c out_of_memory y a b x z = tt
  outcome-is-one tell q c (refuses r) out_of_memory a b x z = tt
  outcome-is-one tell q c (responds u ds) out_of_memory a b x z = tt
  outcome-is-one tell q c (refuses r) (refuses s) a b x z = (same-refusal r s (becomes-one q (refused r) (refused s) x.0 z.0), x.1 ∙ sym z.1)
  outcome-is-one tell q c (refuses r) (responds v es) a b x z = runs-refused z.0 z.1 z.2 r (becomes-one q (runs z.0 z.1 z.2) (refused r) z.3 x.0)
  outcome-is-one tell q c (responds u ds) (refuses r) a b x z = runs-refused x.0 x.1 x.2 r (becomes-one q (runs x.0 x.1 x.2) (refused r) x.3 z.0)
  outcome-is-one tell q c (responds u ds) (responds v es) a b x z =
      executed-one tell z.1.kind z.2 (selected z.0 z.1 z.2) c u v ds es a b (executed tell q z.0 z.1 z.2 z.3 c a u ds x) z.4

  not-mutation : {A : Type 0} (k : OperationType) → k ≡ query → k ≡ mutation → A
  not-mutation k a b = cc

  query-executed : (tell : Place → Place) (k : OperationType) → k ≡ query → (vars : Variables) (s : Forest) (c : C) (v : Value) (es : List Listed)
      (after : C) → IsExecuted S tell k vars s c v es after → after ≡ c
  query-executed tell query e vars s c v es after x = x.1
  query-executed tell mutation e vars s c v es after x = cc
  query-executed tell subscription e vars s c v es after x = absurd x

  pub query-leaves : QueryLeaves S
  query-leaves tell q d o vars k e c (refuses r) after x = x.1
  query-leaves tell q d o vars k e c (responds v es) after x = query-executed tell o.kind e vars (selected d o vars) c v es after
      (executed tell q d o vars k c after v es x)
  query-leaves tell q d o vars k e c out_of_memory after (inl x) = x
  query-leaves tell q d o vars k e c out_of_memory after (inr x) =
      let s = same-runs x.0 d x.1 o x.2 vars (becomes-one q (runs x.0 x.1 x.2) (runs d o vars) x.3 k) in
      not-mutation x.1.kind (ap (λ (z : Operation). z.kind) s.1 ∙ e) x.4

  pub refusal-leaves : RefusalLeaves S
  refusal-leaves tell q r k c (refuses s) after x = x.1
  refusal-leaves tell q r k c (responds v es) after x = runs-refused x.0 x.1 x.2 r (becomes-one q (runs x.0 x.1 x.2) (refused r) x.3 k)
  refusal-leaves tell q r k c out_of_memory after (inl x) = x
  refusal-leaves tell q r k c out_of_memory after (inr x) = runs-refused x.0 x.1 x.2 r (becomes-one q (runs x.0 x.1 x.2) (refused r) x.3 k)

  no-pairs : (fs : List Failure) → fs ≡ [] → pairs fs ≡ []
  unfolding pairs
  no-pairs [] e = refl
  no-pairs (f ∷ fs) e = cc

  errors-where : (tell : Place → Place) (k : OperationType) (vars : Variables) (s : Forest) (c after : C) (v : Value) (es : List Listed) →
      IsExecuted S tell k vars s c v es after →
      (fs : List Failure) → FailIn S k vars s c fs → (es ≡ []) ↔ (fs ≡ [])
  errors-where tell query vars s c after v es x fs e = (
    λ n. e ∙ failures_have_pairs (world_in S vars c) [] [] S.schema.query S.root s (x.0.none.0 n),
    λ n. x.0.none.1 (no-pairs (failures_of (world_in S vars c) [] [] S.schema.query S.root s) (sym e ∙ n)),
  )
  errors-where tell mutation vars s c after v es x fs (n, U, h, e) =
      let same = same-mutation n x.0 U x.1 h x.2 in
      let M : Mutation C N = mutation_in S x.0 vars in
      let f : fs ≡ (mutation_run M x.1 s c).failures = e ∙ (ap (λ z. (mutation_run (mutation_in S z vars) U s c).failures) same.0 ∙ ap
      (λ z. (mutation_run M z s c).failures) same.1) in (
        λ z. f ∙ run-has-pairs M x.1 (keys (root_fields M x.1 s c)) (root_fields M x.1 s c) c (x.3.answer.none.0 z),
        λ z. x.3.answer.none.1 (no-pairs (mutation_run M x.1 s c).failures (sym f ∙ z)),
      )
  errors-where tell subscription vars s c after v es x fs e = absurd x

  pub errors-where-failures : ErrorsWhereFailures S
  errors-where-failures tell q d o vars k c after v es x fs f = errors-where tell o.kind vars (selected d o vars) c after v es
      (executed tell q d o vars k c after v es x) fs f

  null-executed : (tell : Place → Place) (k : OperationType) (vars : Variables) (s : Forest) (c after : C) (es : List Listed) →
      IsExecuted S tell k vars s c null es after → es ≡ [] → ⊥
  null-executed tell query vars s c after es x n = null-explained tell (data_of (world_in S vars c) S.schema.query S.root s) _
      (nulls_of (world_in S vars c) [] S.schema.query S.root s) es x.0 n
  null-executed tell mutation vars s c after es x n =
      let M : Mutation C N = mutation_in S x.0 vars in null-explained tell (data_of_run (mutation_run M x.1 s c)) _
      (run_nulls M x.1 (keys (root_fields M x.1 s c)) (root_fields M x.1 s c) c) es x.3.answer n
  null-executed tell subscription vars s c after es x n = x

  pub null-has-error : NullHasError S
  null-has-error tell q c after es x n = null-executed tell x.1.kind x.2 (selected x.0 x.1 x.2) c after es x.4 n
