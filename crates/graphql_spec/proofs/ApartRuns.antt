-- No two failures of a mutation's run are at one place.
use Rattle.std.specs.Prelude.{true, List, [], ◌∷◌, ◌≡◌}
use Rattle.std.specs.Str.{bytes_eq}
use Rattle.std.proofs.lemmas.Bool.{cases_Bool, or_left, or_right}
use Rattle.std.proofs.Common.{sym, ◌∙◌, inl, inr, subst}
use Rattle.graphql_spec.specs.Shown.{Name}
use Rattle.graphql_spec.specs.Selections.{Occurrence, occurrences, with_key, all_below, Forest, depth}
use Rattle.graphql_spec.specs.Errors.{key, Place}
use Rattle.graphql_spec.specs.Failures.{Failure, starts_of, failures_of}
use Rattle.graphql_spec.specs.Resolvers.{Reply, World}
use Rattle.graphql_spec.specs.Execution.{type_of}
use Rattle.graphql_spec.specs.Laws.{In, Apart}
use Rattle.graphql_spec.proofs.Lists.{known, same_refl}
use Rattle.graphql_spec.proofs.Grouping.{in_append}
use Rattle.graphql_spec.proofs.Failing.{Distinct}
use Rattle.graphql_spec.proofs.Apart.{places_differ, Under, AllUnder, apart-append, elsewhere, reply-apart, reply-under, under}
use Rattle.graphql_spec.specs.Mutation.{Mutation, Run, after_key, run}
use Rattle.graphql_spec.proofs.Running.{run-kept, run-lost, group_failures, next_of, lost_at}

module _ {N : Type 0} (W : World N) where
  -- the failures of selections
  pub below-under : (s : Forest) (place to : Place) (U : Name) (n : N) → AllUnder place (failures_of W place to U n s)
  unfolding failures_of
  below-under s place to U n = under W (depth s) place to U n (occurrences W.possible U s)

  pub below-apart : (s : Forest) (place to : Place) (U : Name) (n : N) → Apart (failures_of W place to U n s)
  unfolding failures_of
  below-apart s place to U n = places_differ W (depth s) place to U n (occurrences W.possible U s)

module _ {C N : Type 0} (M : Mutation C N) (T : Name) where
  pub group-under : (k : Name) (group : List Occurrence) (next : C × Reply N) → AllUnder (key k ∷ []) (group_failures M T k group next)
  unfolding group_failures
  group-under k group next = let W : World N = M.world next.0 in
      reply-under W (λ place to U n. failures_of W place to U n (all_below group)) (below-under W (all_below group)) (starts_of group) (key k ∷ []) []
      (type_of W T group) next.1

  group-apart : (k : Name) (group : List Occurrence) (next : C × Reply N) → Apart (group_failures M T k group next)
  unfolding group_failures
  group-apart k group next = let W : World N = M.world next.0 in
      reply-apart W (λ place to U n. failures_of W place to U n (all_below group)) (below-under W (all_below group)) (starts_of group)
      (below-apart W (all_below group)) (key k ∷ []) [] (type_of W T group) next.1

  -- each failure of a run is below one of its keys
  abbrev pub UnderKeys : List Name → List Failure → Type 0
  UnderKeys ks fs = (g : Failure) → In g fs → (k : Name) × (known k ks ≡ true) × Under (key k ∷ []) g.path

  pub run-under : (ks : List Name) (os : List Occurrence) (c : C) → UnderKeys ks (run M T ks os c).failures
  unfolding run known after_key
  run-under [] os c g i = absurd i
  run-under (k ∷ ks) os c g i = elim (cases_Bool (lost_at M T k os c)) [
    | inl q ↦
        let j = subst (λ (z : Run C). In g z.failures) (run-lost M T k ks os c q) i in
        (k, or_left (bytes_eq k k) (known k ks) (same_refl k), group-under k (with_key k os) (next_of M T k os c) g j)
    | inr q ↦
        let n = next_of M T k os c in
        let fs = group_failures M T k (with_key k os) n in
        elim (in_append g fs (run M T ks os n.0).failures (subst (λ (z : Run C). In g z.failures) (run-kept M T k ks os c q) i)) [
          | inl j ↦ (k, or_left (bytes_eq k k) (known k ks) (same_refl k), group-under k (with_key k os) n g j)
          | inr j ↦ let r = run-under ks os n.0 g j in (r.0, or_right (bytes_eq r.0 k) (known r.0 ks) r.1, r.2)
        ]
  ]

  pub run-apart : (ks : List Name) (os : List Occurrence) (c : C) → Distinct ks → Apart (run M T ks os c).failures
  unfolding run after_key
  run-apart [] os c d = tt
  run-apart (k ∷ ks) os c d = elim (cases_Bool (lost_at M T k os c)) [
    | inl q ↦ subst (λ (z : Run C). Apart z.failures) (sym (run-lost M T k ks os c q)) (group-apart k (with_key k os) (next_of M T k os c))
    | inr q ↦
        let n = next_of M T k os c in
        let fs = group_failures M T k (with_key k os) n in
        subst (λ (z : Run C). Apart z.failures) (sym (run-kept M T k ks os c q)) (apart-append fs (run M T ks os n.0).failures
        (group-apart k (with_key k os) n) (run-apart ks os n.0 d.1)
        (λ x y i j e. let u = group-under k (with_key k os) n x i in let v = run-under ks os n.0 y j in
        elsewhere [] k v.0 u.0 v.2.0 ks d.0 v.1 (sym u.1 ∙ (e ∙ v.2.1))))
  ]
