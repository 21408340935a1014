-- Each null that stands for a failure in a mutation's run has a failure that rises to it.
use Rattle.graphql_spec.specs.Positions.{Position}
use Rattle.std.specs.Prelude.{Option, None, Some, true, false, List, [], ◌∷◌, ◌≡◌}
use Rattle.std.proofs.lemmas.Bool.{cases_Bool, both_ways, and_parts}
use Rattle.std.proofs.Common.{refl, sym, inl, inr, subst}
use Rattle.graphql_spec.specs.Shown.{Name}
use Rattle.graphql_spec.specs.Values.{Value, null, is_null, Entries, object}
use Rattle.graphql_spec.specs.Selections.{Occurrence, occurrences, with_key, all_below, Forest, depth}
use Rattle.graphql_spec.specs.Errors.{key, Place}
use Rattle.graphql_spec.specs.Types.{TypeRef, required}
use Rattle.graphql_spec.specs.Resolvers.{Reply, World}
use Rattle.graphql_spec.specs.Failures.{Failure, starts_of, landing, reply_faults, failures_of}
use Rattle.graphql_spec.specs.Execution.{type_of, data_of, value_of}
use Rattle.graphql_spec.specs.Nulls.{reply_standing, nulls_of}
use Rattle.graphql_spec.specs.Laws.{In, RisesTo}
use Rattle.graphql_spec.specs.Mutation.{Mutation, Run, after_key, step_of, loses, run, data_of_run, group_nulls, run_nulls}
use Rattle.graphql_spec.proofs.Causes.{null_has_cause, nulls_have_causes, rises_first, rises_second, reply-cause, reply_standing-cause}
use Rattle.graphql_spec.proofs.Objects.{null_from}
use Rattle.graphql_spec.proofs.Running.{behind, run-kept, run-lost, nulls-kept, nulls-lost, group_failures, group_value, next_of, lost_at}
use Rattle.graphql_spec.proofs.Grouping.{in_append}

module _ {N : Type 0} (W : World N) (s : Forest) where
  below-cause : (place to : Place) (T : Name) (m : N) → is_null (data_of W T m s) ≡ true → RisesTo to (failures_of W place to T m s)
  unfolding data_of failures_of
  below-cause place to T m e = null_has_cause W (depth s) place to T m (occurrences W.possible T s) (null_from (data_of W T m s) e)

  below-stand : (p place to : Place) (T : Name) (m : N) → In p (nulls_of W place T m s) → RisesTo p (failures_of W place to T m s)
  unfolding nulls_of failures_of
  below-stand p place to T m i = nulls_have_causes W (depth s) place to T m (occurrences W.possible T s) p i

  pub query-cause : (T : Name) (m : N) → is_null (data_of W T m s) ≡ true → RisesTo [] (failures_of W [] [] T m s)
  query-cause T m e = below-cause [] [] T m e

  pub query-stand : (T : Name) (m : N) (p : Place) → In p (nulls_of W [] T m s) → RisesTo p (failures_of W [] [] T m s)
  query-stand T m p i = below-stand p [] [] T m i

  -- a value that is lost, and the nulls in a value
  pub value-cause : (starts : List Position) (here : Place) (t : TypeRef) (r : Reply N) → required t ≡ true → is_null (value_of W t r s) ≡ true →
      RisesTo [] (reply_faults W (λ place to U n. failures_of W place to U n s) here starts [] t r)
  unfolding value_of landing
  value-cause starts here t r q e = elim (reply-cause W (λ U n. data_of W U n s) (λ place to U n. failures_of W place to U n s) starts here [] t r
      (λ place to U n h z. below-cause place to U n z) e) [
        | inl p ↦ absurd (both_ways (required t) p.1 q)
        | inr z ↦ let l : landing t here [] ≡ [] = rw q refl in rw l at z
      ]

  pub value-stand : (starts : List Position) (p here : Place) (t : TypeRef) (r : Reply N) →
      In p (reply_standing W (λ U n. data_of W U n s) (λ place U n. nulls_of W place U n s) here t r) →
      RisesTo p (reply_faults W (λ place to U n. failures_of W place to U n s) here starts [] t r)
  value-stand starts p here t r i = reply_standing-cause W (λ U n. data_of W U n s) (λ place to U n. failures_of W place to U n s) starts
      (λ place U n. nulls_of W place U n s) p here [] t r
      (λ place to U n h z. below-cause place to U n z) (λ place to U n h j. below-stand p place to U n j) i

abbrev data_option : Option Entries → Value
data_option x = elim x [ None ↦ null | Some es ↦ object es ]

module _ {C N : Type 0} (M : Mutation C N) (T : Name) where
  group-cause : (k : Name) (os : List Occurrence) (c : C) → lost_at M T k os c ≡ true → RisesTo [] (group_failures M T k (with_key k os) (next_of M T k os c))
  unfolding lost_at loses next_of group_failures
  group-cause k os c e =
      let n : C × Reply N = step_of M T c (with_key k os) in
      let W : World N = M.world n.0 in
      let both = and_parts (required (type_of W T (with_key k os))) (is_null (value_of W (type_of W T (with_key k os)) n.1 (all_below (with_key k os)))) e in
      value-cause W (all_below (with_key k os)) (starts_of (with_key k os)) (key k ∷ []) (type_of W T (with_key k os)) n.1 both.0 both.1

  group-stand : (p : Place) (k : Name) (os : List Occurrence) (c : C) → In p (group_nulls M T k (with_key k os) c) →
      RisesTo p (group_failures M T k (with_key k os) (next_of M T k os c))
  unfolding group_nulls next_of group_failures
  group-stand p k os c i = let n : C × Reply N = step_of M T c (with_key k os) in let W : World N = M.world n.0 in
      value-stand W (all_below (with_key k os)) (starts_of (with_key k os)) p (key k ∷ []) (type_of W T (with_key k os)) n.1 i

  null-entries : (k : Name) (v : Value) (x : Option Entries) → is_null (data_option (behind k v x)) ≡ true → is_null (data_option x) ≡ true
  unfolding is_null
  null-entries k v None e = e
  null-entries k v (Some es) e = e

  null-behind : (k : Name) (v : Value) (fs : List Failure) (r : Run C) → is_null (data_of_run (after_key k v fs r)) ≡ true → is_null (data_of_run r) ≡ true
  unfolding data_of_run after_key
  null-behind k v fs r e = null-entries k v r.values e

  pub run-cause : (ks : List Name) (os : List Occurrence) (c : C) → is_null (data_of_run (run M T ks os c)) ≡ true → RisesTo [] (run M T ks os c).failures
  unfolding run data_of_run is_null after_key
  run-cause [] os c e = absurd (both_ways false refl e)
  run-cause (k ∷ ks) os c e = elim (cases_Bool (lost_at M T k os c)) [
    | inl q ↦ subst (λ (z : Run C). RisesTo [] z.failures) (sym (run-lost M T k ks os c q)) (group-cause k os c q)
    | inr q ↦
        let n = next_of M T k os c in
        subst (λ (z : Run C). RisesTo [] z.failures) (sym (run-kept M T k ks os c q))
        (rises_second [] (group_failures M T k (with_key k os) n) (run M T ks os n.0).failures
        (run-cause ks os n.0 (null-behind k (group_value M T (with_key k os) n) (group_failures M T k (with_key k os) n) (run M T ks os n.0)
        (subst (λ (z : Run C). is_null (data_of_run z) ≡ true) (run-kept M T k ks os c q) e))))
  ]

  pub run-stand : (ks : List Name) (os : List Occurrence) (c : C) (p : Place) → In p (run_nulls M T ks os c) → RisesTo p (run M T ks os c).failures
  unfolding run run_nulls after_key
  run-stand [] os c p i = absurd i
  run-stand (k ∷ ks) os c p i = elim (cases_Bool (lost_at M T k os c)) [
    | inl q ↦ subst (λ (z : Run C). RisesTo p z.failures) (sym (run-lost M T k ks os c q))
        (group-stand p k os c (subst (In p) (nulls-lost M T k ks os c q) i))
    | inr q ↦
        let n = next_of M T k os c in
        let fs = group_failures M T k (with_key k os) n in
        subst (λ (z : Run C). RisesTo p z.failures) (sym (run-kept M T k ks os c q))
        (elim (in_append p (group_nulls M T k (with_key k os) c) (run_nulls M T ks os n.0) (subst (In p) (nulls-kept M T k ks os c q) i)) [
          | inl j ↦ rises_first p fs (run M T ks os n.0).failures (group-stand p k os c j)
          | inr j ↦ rises_second p fs (run M T ks os n.0).failures (run-stand ks os n.0 p j)
        ])
  ]
