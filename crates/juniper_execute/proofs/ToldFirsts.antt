-- Lists that tell each failure for the first of its field's occurrences, from a walk (7.1.2).
use Rattle.std.proofs.Common.{◌≡◌, Bool, false, IsTrue, List, [], Result, Ok, Err, IfOk, map, refl, sym, subst}
use Rattle.graphql_spec.specs.Shown.{Name}
use Rattle.graphql_spec.specs.Values.{Value, is_null}
use Rattle.graphql_spec.specs.Errors.{Listed, is_sorted}
use Rattle.graphql_spec.specs.Selections.{Forest, keys}
use Rattle.graphql_spec.specs.Types.{named}
use Rattle.graphql_spec.specs.Resolvers.{World}
use Rattle.graphql_spec.specs.Execution.{data_of}
use Rattle.graphql_spec.specs.Failures.{failures_of}
use Rattle.graphql_spec.specs.Nulls.{null_or, nulls_of}
use Rattle.graphql_spec.specs.Mutation.{Mutation, mutation_run, mutation_nulls, data_of_run, root_fields}
use Rattle.graphql_spec.specs.MutationLaws.{HasRun}
use Rattle.graphql_spec.specs.Walk.{Met, count_listed}
use Rattle.graphql_spec.specs.GroupLaws.{for_picked, first_start}
use Rattle.graphql_spec.specs.ExactAnswers.{whole, TellsExactly, IsExactAnswerFor}
use Rattle.graphql_spec.proofs.Answered.{is_answer}
use Rattle.graphql_spec.proofs.Exact.{exact-tells, runs-exact-answer}
use Rattle.juniper_execute.specs.Walkings.{TellsQuery}
use Rattle.juniper_execute.specs.declared.walking.Walking.{Walking}
use Rattle.juniper_execute.specs.declared.walking.Walking.TheVariants.{Grouped}

-- what was listed so of a whole request, and is an exact answer to it
pub walk-tells : {N : Type 0} (W : World N) (T : Name) (m : N) (s : Forest) (v : Value) (es : List Listed) → IsExactAnswerFor W T m s v es →
    Met whole (is_null v) es (map (for_picked first_start) (failures_of W [] [] T m s)) [] (nulls_of W [] T m s) →
    TellsExactly es (map (for_picked first_start) (failures_of W [] [] T m s)) (null_or [] (named false []) (data_of W T m s) (nulls_of W [] T m s))
walk-tells W T m s v es a met = exact-tells (data_of W T m s) v (map (for_picked first_start) (failures_of W [] [] T m s)) _ es
    (is_answer whole v (data_of W T m s) _ _ es es a.0.is_data met (λ p. refl) a.0.sorted) a.1

-- the same of what a walk that resolves each response key once answers, unless memory was wanting
pub answer-tells : {A E N : Type 0} (r : Result A E) (W : World N) (T : Name) (m : N) (s : Forest) (v : A → Value) (es : A → List Listed) →
    IfOk r (λ a. IsExactAnswerFor W T m s (v a) (es a)) →
    IfOk r (λ a. Met whole (is_null (v a)) (es a) (map (for_picked first_start) (failures_of W [] [] T m s)) [] (nulls_of W [] T m s)) →
    (w : Walking) → w ≡ Grouped → IfOk r (λ a. TellsQuery w W T m s (es a))
answer-tells (Ok a) W T m s v es exact met w is = subst (λ z. TellsQuery z W T m s (es a)) (sym is) (walk-tells W T m s (v a) (es a) exact met)
answer-tells (Err e) W T m s v es exact met w is = tt

-- what was listed so of a mutation's run, once it is sorted
pub run-tells : {C N : Type 0} (M : Mutation C N) (T : Name) (s : Forest) (c after : C) (v : Value) (es ds : List Listed) →
    HasRun whole first_start M T (keys (root_fields M T s c)) (root_fields M T s c) c v es after →
    ((p : Listed → Bool) → count_listed p ds ≡ count_listed p es) → IsTrue (is_sorted ds) →
    TellsExactly ds (map (for_picked first_start) (mutation_run M T s c).failures) (mutation_nulls M T s c)
run-tells M T s c after v es ds run same sorted = exact-tells (data_of_run (mutation_run M T s c)) v _ (mutation_nulls M T s c) ds
    (is_answer whole v (data_of_run (mutation_run M T s c)) _ _ es ds run.value run.errors same sorted)
    (runs-exact-answer M T s c after v es ds run same sorted).1
