-- A query of a valid document, on an executable schema.
use Rattle.std.proofs.Common.{◌≡◌, Bool, false, List, [], None, Some, Result, Ok, Err, Vec, Global, IsTrue, refl, sym, ap, inl, subst, ◌∙◌}
use Rattle.std.proofs.lemmas.Bool.{and_parts, both_ways}
use Rattle.std.specs.Result.{IsErr}
use Rattle.graphql_spec.specs.Shown.{Name, Shown}
use Rattle.graphql_spec.specs.Values.{Value}
use Rattle.graphql_spec.specs.Inputs.{Variables}
use Rattle.graphql_spec.specs.Constants.{Members}
use Rattle.graphql_spec.specs.Documents.{Document, Operation, Selections, Fragment, operation, fragments, mutation, query}
use Rattle.graphql_spec.specs.Directives.{passes}
use Rattle.graphql_spec.specs.Fields.{is_object, is_possible, type_named}
use Rattle.graphql_spec.specs.Fragments.{HasNoCycle, expand}
use Rattle.graphql_spec.specs.Schema.{Schema}
use Rattle.graphql_spec.specs.Executable.{is_executable}
use Rattle.graphql_spec.specs.Errors.{Listed, is_sorted}
use Rattle.graphql_spec.specs.ExactAnswers.{whole}
use Rattle.graphql_spec.specs.Selections.{Forest, keys, occurrences}
use Rattle.graphql_spec.specs.Resolvers.{Reply, World, world_of}
use Rattle.graphql_spec.specs.Outcomes.{responds}
use Rattle.graphql_spec.specs.Placed.{root_type}
use Rattle.graphql_spec.specs.Positions.{Position}
use Rattle.graphql_spec.specs.Rules.{rule_errors}
use Rattle.graphql_spec.specs.Laws.{In}
use Rattle.graphql_spec.specs.Walk.{IsAnswerFor, IsMutationAnswerFor, count_listed}
use Rattle.graphql_spec.proofs.Found.{phases-hold}
use Rattle.graphql_spec.proofs.KnownSpreads.{names_end_spreads}
use Rattle.graphql_spec.proofs.ValidSets.{valid_operations_merge}
use Rattle.graphql_spec.proofs.ValidRuns.{roots_are_possible}
use Rattle.graphql_spec.specs.GroupLaws.{all_starts, first_start}
use Rattle.graphql_spec.specs.Mutation.{IsLeft, Mutation, root_fields}
use Rattle.graphql_spec.specs.MutationLaws.{HasRun}
use Rattle.graphql_spec.proofs.Exact.{runs-exact-answer}
use Rattle.graphql_spec.proofs.Running.{may-stop-after, run-answers}
use Rattle.juniper_conversions.specs.declared.execution_error.ExecutionError.{ExecutionError}
use Rattle.juniper_syntax.specs.declared.value.Value.{Value as ValueType}
use Rattle.juniper_execute.specs.Stepping.{IsLeftOf}
use Rattle.juniper_execute.specs.Walkings.{Lists, MutationWalked, TellsQuery, TellsRun, starts_by}
use Rattle.juniper_execute.specs.declared.walking.Walking.{Walking}
use Rattle.juniper_execute.specs.declared.walking.Walking.TheVariants.{Grouped, Joined}
use Rattle.juniper_execute.proofs.ToldFirsts.{run-tells}
use Rattle.juniper_walk.specs.Walking.{SelectionsAgree}

-- something is declared as the query type
pub query-is-there : {A : Type 0} (s : Schema) → IsTrue (is_executable s) → (n : Name) → n ≡ s.query → type_named s n ≡ None → A
unfolding is_possible is_object root_type
query-is-there s executable n is none =
    let there = and_parts (is_object (type_named s s.query)) _ (roots_are_possible s executable query s.query refl) in
    absurd (both_ways false refl (ap is_object (sym none) ∙ (ap (λ x. is_object (type_named s x)) is ∙ there.0)))

-- no fragment reaches itself
pub no-cycle : (s : Schema) (disabled : Bool) (d : Document) → rule_errors s disabled d ≡ [] → (fs : List Fragment) → fs ≡ fragments d → HasNoCycle fs
no-cycle s disabled d valid fs is = subst HasNoCycle (sym is) (names_end_spreads s disabled d (phases-hold s disabled d valid).names)

kind-root : (s : Schema) (o : Operation) → o.kind ≡ query → root_type s o.kind ≡ root_type s query
kind-root s o is = ap (root_type s) is

module _ {N : Type 0} (s : Schema) (disabled : Bool) (executable : IsTrue (is_executable s)) (d : Document) (valid : rule_errors s disabled d ≡ [])
    (o : Operation) (member : In (operation o) d) (kind : o.kind ≡ query)
    (vars : Variables) (concrete : N → Name) (answer : N → Name → Members → Reply N) where
  agrees : SelectionsAgree (world_of s vars concrete answer) s.query (expand (passes vars) (fragments d) o.selections)
  unfolding world_of root_type
  agrees = λ depth. valid_operations_merge s executable disabled d valid vars concrete answer (passes vars) o member s.query (kind-root s o kind) depth s.query
      (roots_are_possible s executable query s.query refl)

  -- what the query selects agrees
  pub query-agrees : (T : Name) → T ≡ s.query → (fs : List Fragment) → fs ≡ fragments d → (set : Selections) → set ≡ o.selections →
      SelectionsAgree (world_of s vars concrete answer) T (expand (passes vars) fs set)
  query-agrees T t fs f set e =
      subst (λ U. SelectionsAgree (world_of s vars concrete answer) U (expand (passes vars) fs set)) (sym t)
      (subst (λ x. SelectionsAgree (world_of s vars concrete answer) s.query x)
      (sym (ap (λ gs. expand (passes vars) gs set) f ∙ ap (expand (passes vars) (fragments d)) e)) agrees)

-- an answer, by other names for its parts
pub answer-moves : {N : Type 0} (W : World N) (T U : Name) (m n : N) (x y : Forest) (v : Value) (es : List Listed) → T ≡ U → m ≡ n → x ≡ y →
    IsAnswerFor whole W T m x v es → IsAnswerFor whole W U n y v es
answer-moves W T U m n x y v es t e f a =
    subst (λ z. IsAnswerFor whole W U n z v es) f (subst (λ z. IsAnswerFor whole W U z x v es) e (subst (λ z. IsAnswerFor whole W z m x v es) t a))

-- and what it tells of its failures
pub tells-move : (w : Walking) {N : Type 0} (W : World N) (T U : Name) (m n : N) (x y : Forest) (es : List Listed) → T ≡ U → m ≡ n → x ≡ y →
    TellsQuery w W T m x es → TellsQuery w W U n y es
tells-move w W T U m n x y es t e f a =
    subst (λ z. TellsQuery w W U n z es) f (subst (λ z. TellsQuery w W U z x es) e (subst (λ z. TellsQuery w W z m x es) t a))

module _ {N : Type 0} (s : Schema) (disabled : Bool) (executable : IsTrue (is_executable s)) (d : Document) (valid : rule_errors s disabled d ≡ [])
    (o : Operation)
    (member : In (operation o) d)
    (kind : o.kind ≡ mutation) (T : Name) (root : s.mutation ≡ Some T) (vars : Variables) (concrete : N → Name) (answer : N → Name → Members → Reply N) where
  mutation-type : root_type s o.kind ≡ Some T
  unfolding root_type
  mutation-type = ap (root_type s) kind ∙ root

  all-agrees : SelectionsAgree (world_of s vars concrete answer) T (expand (passes vars) (fragments d) o.selections)
  unfolding world_of
  all-agrees = λ depth. valid_operations_merge s executable disabled d valid vars concrete answer (passes vars) o member T mutation-type depth T
      (roots_are_possible s executable o.kind T mutation-type)

  -- what a mutation selects agrees, under each context
  pub mutation-agrees : (fs : List Fragment) → fs ≡ fragments d → (set : Selections) → set ≡ o.selections →
      SelectionsAgree (world_of s vars concrete answer) T (expand (passes vars) fs set)
  mutation-agrees fs f set e =
      subst (λ x. SelectionsAgree (world_of s vars concrete answer) T x)
      (sym (ap (λ gs. expand (passes vars) gs set) f ∙ ap (expand (passes vars) (fragments d)) e)) all-agrees

-- ## What a mutation selects, by other names

module _ {C N : Type 0} (M : Mutation C N) (T : Name) (c after : C) (possible : Name → Name → Bool) (same : (M.world c).possible ≡ possible)
    (x y : Forest) (e : x ≡ y) where
  fields-are : occurrences possible T x ≡ root_fields M T y c
  fields-are = ap (occurrences possible T) e ∙ ap (λ p. occurrences p T y) (sym same)

  pub left-moves : IsLeft M T (keys (occurrences possible T x)) (occurrences possible T x) c after → IsLeftOf M T y c after
  left-moves l = subst (λ os. IsLeft M T (keys os) os c after) fields-are l

  -- a run that was sorted is an answer
  pub run-is-answer : (w : Walking) (v : Value) (es ds : List Listed) →
      HasRun whole (starts_by w) M T (keys (occurrences possible T x)) (occurrences possible T x) c v es after →
      ((p : Listed → Bool) → count_listed p ds ≡ count_listed p es) → IsTrue (is_sorted ds) →
      IsMutationAnswerFor M T whole y c v ds after × Lists w (responds v ds) × TellsRun w M T y c ds
  run-is-answer Grouped v es ds r same_count sorted =
      let ran = subst (λ os. HasRun whole first_start M T (keys os) os c v es after) fields-are r in
      let answer = runs-exact-answer M T y c after v es ds ran same_count sorted in
      (answer.0, answer.1, run-tells M T y c after v es ds ran same_count sorted)
  run-is-answer Joined v es ds r same_count sorted = (
    run-answers whole M T y c after v es ds (inl (subst (λ os. HasRun whole all_starts M T (keys os) os c v es after) fields-are r)) same_count sorted,
    tt,
    tt,
  )

  pub run-left : (pick : List Position → List Position) (v : Value) (es : List Listed) →
      HasRun whole pick M T (keys (occurrences possible T x)) (occurrences possible T x) c v es after → IsLeftOf M T y c after
  run-left pick v es r = left-moves (may-stop-after M T whole pick (keys (occurrences possible T x)) (occurrences possible T x) c after v es r)

-- where memory was wanting, what a run leaves
pub walked-err : {S C N E : Type 0} (shown : S → Shown) (w : Walking) (M : Mutation C N) (T : Name) (s : Forest) (c : C)
    (r : Result (ValueType S × Vec (ExecutionError S) Global) E) (after : C) → IsErr r → IsLeftOf M T s c after → MutationWalked shown w M T s c r after
walked-err shown w M T s c (Ok p) after f left = cc
walked-err shown w M T s c (Err e) after f left = left
