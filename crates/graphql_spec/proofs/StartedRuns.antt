-- Each failure of a mutation's run has an occurrence of its field.
use Rattle.std.specs.Prelude.{◌&&◌, List, [], ◌∷◌, ◌≡◌}
use Rattle.std.proofs.lemmas.Bool.{cases_Bool}
use Rattle.std.proofs.Common.{inl, inr}
use Rattle.graphql_spec.specs.Shown.{Name}
use Rattle.graphql_spec.specs.Selections.{Occurrence, depth, occurrences, with_key, all_below}
use Rattle.graphql_spec.specs.Errors.{key, Place}
use Rattle.graphql_spec.specs.Types.{TypeRef, required}
use Rattle.graphql_spec.specs.Failures.{Failure, starts_of, faults, reply_faults, failures_of}
use Rattle.graphql_spec.specs.Resolvers.{Reply, World}
use Rattle.graphql_spec.specs.Execution.{type_of, value_of}
use Rattle.graphql_spec.specs.Values.{is_null}
use Rattle.graphql_spec.specs.Mutation.{Mutation, after_key, step_of, run}
use Rattle.graphql_spec.specs.Laws.{pairs}
use Rattle.graphql_spec.proofs.Grouping.{in_append}
use Rattle.graphql_spec.proofs.Started.{Started, no_pairs, reply-started, started}

module _ {C N : Type 0} (M : Mutation C N) (T : Name) where
  pub below : (W : World N) (os : List Occurrence) (place to : Place) (U : Name) (n : N) → Started (failures_of W place to U n (all_below os))
  unfolding failures_of
  below W os place to U n = started W (depth (all_below os)) place to U n (occurrences W.possible U (all_below os))

  -- a group without occurrences has no failure
  group-started : (k : Name) (os : List Occurrence) (c : C) → (let next : C × Reply N = step_of M T c os in let W : World N = M.world next.0 in
      Started (reply_faults W (λ place to U n. failures_of W place to U n (all_below os)) (key k ∷ []) (starts_of os) [] (type_of W T os) next.1))
  unfolding starts_of step_of reply_faults faults type_of required
  group-started k [] c g i = absurd i
  group-started k (o ∷ os) c g i = let next : C × Reply N = step_of M T c (o ∷ os) in let W : World N = M.world next.0 in
      reply-started W (λ place to U n. failures_of W place to U n (all_below (o ∷ os))) (below W (o ∷ os)) (starts_of (o ∷ os)) (λ e. cc) (key k ∷ []) []
      (type_of W T (o ∷ os)) next.1 g i

  pub run-started : (ks : List Name) (os : List Occurrence) (c : C) → Started (run M T ks os c).failures
  unfolding run after_key
  run-started [] os c g i = absurd i
  run-started (k ∷ ks) os c g i =
      let next : C × Reply N = step_of M T c (with_key k os) in
      let W : World N = M.world next.0 in
      let t : TypeRef = type_of W T (with_key k os) in
      let fs : List Failure = reply_faults W (λ place to U n. failures_of W place to U n (all_below (with_key k os))) (key k ∷ [])
      (starts_of (with_key k os)) [] t next.1 in
      elim (cases_Bool (required t && is_null (value_of W t next.1 (all_below (with_key k os))))) [
        | inl q ↦ group-started k (with_key k os) c g (rw q at i)
        | inr q ↦ elim (in_append g fs (run M T ks os next.0).failures (rw q at i)) [
          | inl j ↦ group-started k (with_key k os) c g j
          | inr j ↦ run-started ks os next.0 g j
        ]
      ]

  pub run-has-pairs : (ks : List Name) (os : List Occurrence) (c : C) → pairs (run M T ks os c).failures ≡ [] → (run M T ks os c).failures ≡ []
  run-has-pairs ks os c e = no_pairs (run M T ks os c).failures (run-started ks os c) e
