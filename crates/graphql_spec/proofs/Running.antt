-- A mutation's root groups, one after the other.
use Rattle.std.proofs.Common.{◌≡◌, ◌||◌, ◌&&◌, Bool, true, false, not, List, [], ◌∷◌, ◌++◌, map, Option, None, Some, refl, sym, ap, ◌∙◌, inl, inr, subst}
use Rattle.std.proofs.Common.{append_assoc, IsTrue}
use Rattle.std.specs.Str.{bytes_eq}
use Rattle.std.proofs.lemmas.Bool.{cases_Bool, or_parts}
use Rattle.std.proofs.lemmas.List.{append-nil, map-append}
use Rattle.graphql_spec.specs.Shown.{Name}
use Rattle.graphql_spec.specs.Positions.{Position}
use Rattle.graphql_spec.specs.Values.{Value, null, object, Entries, no_entries, entry, is_null, has_entry, append, put}
use Rattle.graphql_spec.specs.Types.{TypeRef, named, required}
use Rattle.graphql_spec.specs.Nulls.{null_or}
use Rattle.graphql_spec.specs.Errors.{Place, key, Listed, is_sorted}
use Rattle.graphql_spec.specs.Selections.{Forest, Occurrence, keys, with_key, all_below}
use Rattle.graphql_spec.specs.Resolvers.{Reply}
use Rattle.graphql_spec.specs.Execution.{type_of, value_of}
use Rattle.graphql_spec.specs.Failures.{Failure, starts_of, reply_faults, failures_of}
use Rattle.graphql_spec.specs.Mutation.{Mutation, Run, after_key, step_of, loses, run, IsLeft, data_of_run, group_nulls, run_nulls, root_fields, mutation_run}
use Rattle.graphql_spec.specs.Laws.{In}
use Rattle.graphql_spec.specs.Walk.{Met, IsAnswer, count_listed, IsMutationAnswerFor}
use Rattle.graphql_spec.proofs.Lists.{known, known-append, same_sym}
use Rattle.graphql_spec.proofs.Grouping.{in_append}
use Rattle.graphql_spec.proofs.Nulls.{Places}
use Rattle.graphql_spec.proofs.Failing.{Distinct, distinct-keys, tally, tally-append}
use Rattle.graphql_spec.proofs.Walk.{met-join}
use Rattle.graphql_spec.proofs.Places.{met-none}
use Rattle.graphql_spec.specs.GroupLaws.{for_picked, GroupCompleted}
use Rattle.graphql_spec.specs.MutationLaws.{HasRun, NoneRan, OneMoreRan, RunAnswers, MayStopAt, MayStopAfter}
use Rattle.graphql_spec.proofs.Answered.{is_answer}
use Rattle.graphql_spec.proofs.Picked.{map-all, firsts-stand}

-- ## Entries

-- entries before those of a run, if it has any
unfoldable pub prepend : Entries → Option Entries → Option Entries
prepend es None = None
prepend es (Some ds) = Some (append es ds)

prepend-none : (x : Option Entries) → prepend no_entries x ≡ x
unfolding prepend append
prepend-none None = refl
prepend-none (Some ds) = refl

-- what stands behind a key that ran
abbrev pub behind : Name → Value → Option Entries → Option Entries
behind k v x = elim x [ None ↦ None | Some es ↦ Some (entry k v es) ]

prepend-behind : (k : Name) (v : Value) (ds : Entries) (x : Option Entries) → behind k v (prepend ds x) ≡ prepend (entry k v ds) x
unfolding prepend append
prepend-behind k v ds None = refl
prepend-behind k v ds (Some es) = refl

pub behind-some : (k : Name) (v : Value) (x : Option Entries) (es : Entries) → behind k v x ≡ Some es → (ds : Entries) × (x ≡ Some ds) × (es ≡ entry k v ds)
behind-some k v None es e = cc
behind-some k v (Some ds) es e = let q : entry k v ds ≡ es = cc in (ds, refl, sym q)

some-entries : (x : Option Entries) (es : Entries) → object es ≡ elim x [ None ↦ null | Some ds ↦ object ds ] → x ≡ Some es
some-entries None es e = cc
some-entries (Some ds) es e = let q : es ≡ ds = cc in ap Some (sym q)

pub put-new : (k : Name) (v : Value) (es : Entries) → has_entry k es ≡ false → put k v es ≡ append es (entry k v no_entries)
unfolding put append has_entry
put-new k v no_entries e = refl
put-new k v (entry j w rest) e = let p = or_parts (bytes_eq k j) (has_entry k rest) e in rw (p.0) (ap (entry j w) (put-new k v rest p.1))

pub distinct-new : (front rest : List Name) (k : Name) → Distinct (front ++ k ∷ rest) → known k front ≡ false
unfolding known
distinct-new [] rest k d = refl
distinct-new (j ∷ front) rest k d =
    let n : known j (front ++ k ∷ rest) ≡ false = d.0 in
    let s = or_parts (known j front) (known j (k ∷ rest)) (sym (known-append j front (k ∷ rest)) ∙ n) in
    let t = or_parts (bytes_eq j k) (known j rest) s.1 in
    rw (same_sym k j, t.0) (distinct-new front rest k d.1)

-- ## Runs

-- a run goes on: w is r and then q
pub record Follows {C : Type 0} (es : Entries) (r q w : Run C) : Type 0 where
  pub values : w.values ≡ prepend es q.values
  pub context : w.context ≡ q.context
  pub failures : w.failures ≡ r.failures ++ q.failures

follows-key : {C : Type 0} (k : Name) (v : Value) (fs : List Failure) (ds : Entries) (r q w : Run C) → Follows ds r q w →
    Follows (entry k v ds) (after_key k v fs r) q (after_key k v fs w)
unfolding after_key
follows-key k v fs ds r q w f = record {
  values = ap (behind k v) f.values ∙ prepend-behind k v ds q.values;
  context = f.context;
  failures = ap (λ z. fs ++ z) f.failures ∙ sym (append_assoc fs r.failures q.failures);
}

module _ {C N : Type 0} (M : Mutation C N) (T : Name) where
  unfoldable pub group_value : List Occurrence → C × Reply N → Value
  group_value group next = value_of (M.world next.0) (type_of (M.world next.0) T group) next.1 (all_below group)

  unfoldable pub group_failures : Name → List Occurrence → C × Reply N → List Failure
  group_failures k group next = reply_faults (M.world next.0) (λ place to U n. failures_of (M.world next.0) place to U n (all_below group)) (key k ∷ [])
      (starts_of group) [] (type_of (M.world next.0) T group) next.1

  unfoldable pub next_of : Name → List Occurrence → C → C × Reply N
  next_of k os c = step_of M T c (with_key k os)

  unfoldable pub lost_at : Name → List Occurrence → C → Bool
  lost_at k os c = loses M T (with_key k os) (next_of k os c)

  run-none : (os : List Occurrence) (c : C) → run M T [] os c ≡ record { values = Some no_entries; context = c; failures = [] }
  unfolding run
  run-none os c = refl

  pub run-lost : (k : Name) (ks : List Name) (os : List Occurrence) (c : C) → lost_at k os c ≡ true →
      run M T (k ∷ ks) os c ≡ record { values = None; context = (next_of k os c).0; failures = group_failures k (with_key k os) (next_of k os c) }
  unfolding run loses group_failures next_of lost_at
  run-lost k ks os c e = rw e refl

  pub run-kept : (k : Name) (ks : List Name) (os : List Occurrence) (c : C) → lost_at k os c ≡ false →
      run M T (k ∷ ks) os c ≡ after_key k (group_value (with_key k os) (next_of k os c)) (group_failures k (with_key k os) (next_of k os c))
      (run M T ks os (next_of k os c).0)
  unfolding run loses group_value group_failures next_of lost_at
  run-kept k ks os c e = rw e refl

  pub nulls-lost : (k : Name) (ks : List Name) (os : List Occurrence) (c : C) → lost_at k os c ≡ true →
      run_nulls M T (k ∷ ks) os c ≡ group_nulls M T k (with_key k os) c
  unfolding run_nulls next_of lost_at
  nulls-lost k ks os c e = rw e (append-nil (group_nulls M T k (with_key k os) c))

  pub nulls-kept : (k : Name) (ks : List Name) (os : List Occurrence) (c : C) → lost_at k os c ≡ false →
      run_nulls M T (k ∷ ks) os c ≡ group_nulls M T k (with_key k os) c ++ run_nulls M T ks os (next_of k os c).0
  unfolding run_nulls next_of lost_at
  nulls-kept k ks os c e = rw e refl

  -- where the groups of the keys `front` have values, a further run goes on from the context that they leave
  pub run-on : (front ks : List Name) (os : List Occurrence) (c : C) (es : Entries) → (run M T front os c).values ≡ Some es →
      Follows es (run M T front os c) (run M T ks os (run M T front os c).context) (run M T (front ++ ks) os c)
      × (run_nulls M T (front ++ ks) os c ≡ run_nulls M T front os c ++ run_nulls M T ks os (run M T front os c).context)
      × ((j : Name) → has_entry j es ≡ known j front)
  unfolding run run_nulls has_entry known after_key
  run-on [] ks os c es e = let q : no_entries ≡ es = cc in
      (record { values = rw (← q) (sym (prepend-none (run M T ks os c).values)); context = refl; failures = refl }, refl, λ j. rw (← q) refl)
  run-on (k ∷ front) ks os c es e = elim (cases_Bool (lost_at k os c)) [
    | inl q ↦ let z : None ≡ Some es = sym (ap (λ (x : Run C). x.values) (run-lost k front os c q)) ∙ e in cc
    | inr q ↦
        let n : C × Reply N = next_of k os c in
        let v : Value = group_value (with_key k os) n in
        let fs : List Failure = group_failures k (with_key k os) n in
        let one = run-kept k front os c q in
        let all = run-kept k (front ++ ks) os c q in
        let b = behind-some k v (run M T front os n.0).values es (sym (ap (λ (x : Run C). x.values) one) ∙ e) in
        let ih = run-on front ks os n.0 b.0 b.1 in
        let there : (run M T (k ∷ front) os c).context ≡ (run M T front os n.0).context = ap (λ (x : Run C). x.context) one in
        let f : Follows (entry k v b.0) (run M T (k ∷ front) os c) (run M T ks os (run M T front os n.0).context) (run M T (k ∷ front ++ ks) os c)
        = subst (λ z. Follows (entry k v b.0) z (run M T ks os (run M T front os n.0).context) (run M T (k ∷ front ++ ks) os c)) (sym one)
        (subst (λ z. Follows (entry k v b.0) (after_key k v fs (run M T front os n.0)) (run M T ks os (run M T front os n.0).context) z) (sym all)
        (follows-key k v fs b.0 (run M T front os n.0) (run M T ks os (run M T front os n.0).context) (run M T (front ++ ks) os n.0) ih.0)) in
        let g : Follows es (run M T (k ∷ front) os c) (run M T ks os (run M T (k ∷ front) os c).context) (run M T (k ∷ front ++ ks) os c)
        = subst (λ z. Follows es (run M T (k ∷ front) os c) (run M T ks os z) (run M T (k ∷ front ++ ks) os c)) (sym there)
        (subst (λ z. Follows z (run M T (k ∷ front) os c) (run M T ks os (run M T front os n.0).context) (run M T (k ∷ front ++ ks) os c)) (sym b.2) f) in (
          g,
          nulls-kept k (front ++ ks) os c q ∙ (ap (λ z. group_nulls M T k (with_key k os) c ++ z) ih.1
              ∙ (sym (append_assoc (group_nulls M T k (with_key k os) c) (run_nulls M T front os n.0) (run_nulls M T ks os (run M T front os n.0).context))
              ∙ (ap (λ z. z ++ run_nulls M T ks os (run M T front os n.0).context) (sym (nulls-kept k front os c q))
              ∙ ap (λ z. run_nulls M T (k ∷ front) os c ++ run_nulls M T ks os z) (sym there)))),
          λ j. ap (has_entry j) b.2 ∙ ap (λ z. bytes_eq j k || z) (ih.2 j),
        )
  ]

  somes : (es : Entries) (k : Name) (v : Value) → prepend es (Some (entry k v no_entries)) ≡ Some (append es (entry k v no_entries))
  unfolding prepend
  somes es k v = refl

  nones : (es : Entries) → prepend es None ≡ None
  unfolding prepend
  nones es = refl

  pub kept-values : (k : Name) (ks : List Name) (os : List Occurrence) (c : C) (es : Entries) → lost_at k os c ≡ false →
      (run M T (k ∷ ks) os c).values ≡ Some es →
      behind k (group_value (with_key k os) (next_of k os c)) (run M T ks os (next_of k os c).0).values ≡ Some es
  unfolding after_key
  kept-values k ks os c es q e = sym (ap (λ (x : Run C). x.values) (run-kept k ks os c q)) ∙ e

  kept-context : (k : Name) (ks : List Name) (os : List Occurrence) (c : C) → lost_at k os c ≡ false →
      (run M T (k ∷ ks) os c).context ≡ (run M T ks os (next_of k os c).0).context
  unfolding after_key
  kept-context k ks os c q = ap (λ (x : Run C). x.context) (run-kept k ks os c q)

  lost-context : (k : Name) (ks : List Name) (os : List Occurrence) (c : C) → lost_at k os c ≡ true →
      (run M T (k ∷ ks) os c).context ≡ (step_of M T c (with_key k os)).0
  unfolding next_of
  lost-context k ks os c q = ap (λ (x : Run C). x.context) (run-lost k ks os c q)

  both-first : (a b : Bool) → (a && b) ≡ (b && a)
  both-first true true = refl
  both-first true false = refl
  both-first false true = refl
  both-first false false = refl

  lost-by : (k : Name) (os : List Occurrence) (c : C) (v : Value) (b : Bool) → v ≡ group_value (with_key k os) (next_of k os c) →
      (is_null v && required (type_of (M.world (next_of k os c).0) T (with_key k os))) ≡ b → lost_at k os c ≡ b
  unfolding lost_at loses group_value next_of
  lost-by k os c v b e q = ap (λ z. required (type_of (M.world (step_of M T c (with_key k os)).0) T (with_key k os)) && is_null z) (sym e)
      ∙ (both-first (required (type_of (M.world (step_of M T c (with_key k os)).0) T (with_key k os))) (is_null v) ∙ q)

  -- one group alone
  one-kept : (k : Name) (os : List Occurrence) (c : C) → lost_at k os c ≡ false →
      run M T (k ∷ []) os c ≡ record {
        values = Some (entry k (group_value (with_key k os) (next_of k os c)) no_entries);
        context = (next_of k os c).0;
        failures = group_failures k (with_key k os) (next_of k os c) ++ [];
      }
  unfolding run after_key
  one-kept k os c q = run-kept k [] os c q

  one-nulls : (k : Name) (os : List Occurrence) (c : C) → lost_at k os c ≡ false → run_nulls M T (k ∷ []) os c ≡ group_nulls M T k (with_key k os) c
  unfolding run_nulls
  one-nulls k os c q = nulls-kept k [] os c q ∙ append-nil (group_nulls M T k (with_key k os) c)

  module _ (tell : Place → Place) (pick : List Position → List Position) where
    pub none-ran : NoneRan tell pick M T
    unfolding run run_nulls data_of_run is_null
    none-ran os c = record { value = refl; errors = met-none tell []; context = refl }

    ran-values : (r : Run C) (es : Entries) → object es ≡ data_of_run r → r.values ≡ Some es
    unfolding data_of_run
    ran-values r es e = some-entries r.values es e

    -- what was met before, and in a group
    met-on : (b : Bool) (errors more : List Listed) (fs gs hs : List Failure) (st xs ys : Places) → Met tell false errors (map (for_picked pick) gs) [] xs →
        Met tell b more (map (for_picked pick) hs) [] ys → fs ≡ gs ++ hs → st ≡ xs ++ ys → Met tell b (errors ++ more) (map (for_picked pick) fs) [] st
    unfolding tally
    met-on b errors more fs gs hs st xs ys m n e f = met-join tell false b errors more (map (for_picked pick) fs) (map (for_picked pick) gs)
        (map (for_picked pick) hs) [] st xs ys m n
        (λ p. ap (λ z. tally p (map (for_picked pick) z)) e ∙ (ap (tally p) (map-append (for_picked pick) gs hs) ∙ tally-append p (map (for_picked pick) gs)
        (map (for_picked pick) hs))) (λ p i. in_append p xs ys (subst (λ z. In p z) f i))

    more-kept : (front : List Name) (k : Name) (os : List Occurrence) → known k front ≡ false → (c : C) (es : Entries) (errors : List Listed) →
        (r : HasRun tell pick M T front os c (object es) errors (run M T front os c).context) → (let now : C = (run M T front os c).context in
        (v : Value) (more : List Listed) → v ≡ group_value (with_key k os) (next_of k os now) → lost_at k os now ≡ false →
        Met tell false more (map (for_picked pick) (group_failures k (with_key k os) (next_of k os now))) [] (group_nulls M T k (with_key k os) now) →
        HasRun tell pick M T (front ++ k ∷ []) os c (object (put k v es)) (errors ++ more) (next_of k os now).0)
    unfolding data_of_run is_null
    more-kept front k os new c es errors r v more e q n =
        let now : C = (run M T front os c).context in
        let on = run-on front (k ∷ []) os c es (ran-values (run M T front os c) es r.value) in
        let one = one-kept k os now q in
        let w : C × Reply N = next_of k os now in
        let values : (run M T (front ++ k ∷ []) os c).values ≡ Some (append es (entry k v no_entries)) = on.0.values
        ∙ (ap (λ (x : Run C). prepend es x.values) one ∙ somes es k (group_value (with_key k os) w)
        ∙ ap (λ z. Some (append es (entry k z no_entries))) (sym e)) in
        let d = on.2 k ∙ new in
        record {
          value = ap object (put-new k v es d) ∙ ap (λ (x : Option Entries). elim x [ None ↦ null | Some ds ↦ object ds ]) (sym values);
          errors = met-on false errors more (run M T (front ++ k ∷ []) os c).failures (run M T front os c).failures (group_failures k (with_key k os) w)
              (run_nulls M T (front ++ k ∷ []) os c) (run_nulls M T front os c) (group_nulls M T k (with_key k os) now) r.errors n
              (on.0.failures ∙ ap (λ z. (run M T front os c).failures ++ z) (ap (λ (x : Run C). x.failures) one ∙ append-nil
              (group_failures k (with_key k os) w)))
              (on.1 ∙ ap (λ z. run_nulls M T front os c ++ z) (one-nulls k os now q));
          context = sym (on.0.context ∙ ap (λ (x : Run C). x.context) one);
        }

    more-lost : (front rest : List Name) (k : Name) (os : List Occurrence) (c : C) (es : Entries) (errors : List Listed) →
        (r : HasRun tell pick M T front os c (object es) errors (run M T front os c).context) → (let now : C = (run M T front os c).context in
        (more : List Listed) → lost_at k os now ≡ true →
        Met tell true more (map (for_picked pick) (group_failures k (with_key k os) (next_of k os now))) [] (group_nulls M T k (with_key k os) now) →
        HasRun tell pick M T (front ++ k ∷ rest) os c null (errors ++ more) (next_of k os now).0)
    unfolding data_of_run is_null
    more-lost front rest k os c es errors r more q n =
        let now : C = (run M T front os c).context in
        let on = run-on front (k ∷ rest) os c es (ran-values (run M T front os c) es r.value) in
        let one = run-lost k rest os now q in
        let w : C × Reply N = next_of k os now in
        let values : (run M T (front ++ k ∷ rest) os c).values ≡ None = on.0.values ∙ (ap (λ (x : Run C). prepend es x.values) one ∙ nones es) in
        record {
          value = ap (λ (x : Option Entries). elim x [ None ↦ null | Some ds ↦ object ds ]) (sym values);
          errors = met-on true errors more (run M T (front ++ k ∷ rest) os c).failures (run M T front os c).failures (group_failures k (with_key k os) w)
              (run_nulls M T (front ++ k ∷ rest) os c) (run_nulls M T front os c) (group_nulls M T k (with_key k os) now) r.errors n
              (on.0.failures ∙ ap (λ z. (run M T front os c).failures ++ z) (ap (λ (x : Run C). x.failures) one))
              (on.1 ∙ ap (λ z. run_nulls M T front os c ++ z) (nulls-lost k rest os now q));
          context = sym (on.0.context ∙ ap (λ (x : Run C). x.context) one);
        }

    -- one more group, in the context that stands
    abbrev GoesOn : List Name → List Name → Name → List Occurrence → C → Entries → List Listed → C → Type 0
    GoesOn front rest k os c es errors now =
        let next : C × Reply N = step_of M T now (with_key k os) in let t : TypeRef = type_of (M.world next.0) T (with_key k os) in
        (v : Value) (more : List Listed) → GroupCompleted tell pick (M.world next.0) (key k ∷ []) [] t next.1 (with_key k os) v more →
        ((is_null v && required t) ≡ false → HasRun tell pick M T (front ++ k ∷ []) os c (object (put k v es)) (errors ++ more) next.0)
        × ((is_null v && required t) ≡ true → HasRun tell pick M T (front ++ k ∷ rest) os c null (errors ++ more) next.0)

    goes-on : (front rest : List Name) (k : Name) (os : List Occurrence) → known k front ≡ false → (c : C) (es : Entries) (errors : List Listed) →
        HasRun tell pick M T front os c (object es) errors (run M T front os c).context → GoesOn front rest k os c es errors (run M T front os c).context
    unfolding group_value group_failures group_nulls next_of
    goes-on front rest k os new c es errors r v more d = (
      λ q. more-kept front k os new c es errors r v more d.value (lost-by k os (run M T front os c).context v false d.value q) (rw q at d.errors),
      λ q. more-lost front rest k os c es errors r more (lost-by k os (run M T front os c).context v true d.value q) (rw q at d.errors),
    )

    pub one-more-ran : OneMoreRan tell pick M T
    one-more-ran front rest k os e c now es errors r =
        let new = distinct-new front rest k (subst Distinct e (distinct-keys os)) in
        let r' : HasRun tell pick M T front os c (object es) errors (run M T front os c).context =
        subst (λ z. HasRun tell pick M T front os c (object es) errors z) r.context r in
        subst (λ z. GoesOn front rest k os c es errors z) (sym r.context) (goes-on front rest k os new c es errors r')

    -- ## What may be left

    left-now : (ks : List Name) (os : List Occurrence) (c : C) → IsLeft M T ks os c c
    left-now [] os c = refl
    left-now (k ∷ ks) os c = inl refl

    lost-next : (k : Name) (os : List Occurrence) (c : C) (b : Bool) → lost_at k os c ≡ b → loses M T (with_key k os) (step_of M T c (with_key k os)) ≡ b
    unfolding lost_at next_of
    lost-next k os c b e = e

    left-kept : (k : Name) (ks : List Name) (os : List Occurrence) (c d : C) → lost_at k os c ≡ false → IsLeft M T ks os (next_of k os c).0 d →
        IsLeft M T (k ∷ ks) os c d
    unfolding next_of
    left-kept k ks os c d q l = inr (inr (inr (ap not (lost-next k os c false q), l)))

    -- what may be left after the groups of `front` is what may be left
    left-on : (front ks : List Name) (os : List Occurrence) (c d : C) (es : Entries) → (run M T front os c).values ≡ Some es →
        IsLeft M T ks os (run M T front os c).context d → IsLeft M T (front ++ ks) os c d
    unfolding run
    left-on [] ks os c d es e l = l
    left-on (k ∷ front) ks os c d es e l = elim (cases_Bool (lost_at k os c)) [
      | inl q ↦ let z : None ≡ Some es = sym (ap (λ (x : Run C). x.values) (run-lost k front os c q)) ∙ e in cc
      | inr q ↦
          let n : C × Reply N = next_of k os c in
          let one = run-kept k front os c q in
          let b = behind-some k (group_value (with_key k os) n) (run M T front os n.0).values es (kept-values k front os c es q e) in
          left-kept k (front ++ ks) os c d q (left-on front ks os n.0 d b.0 b.1 (subst (λ z. IsLeft M T ks os z d) (kept-context k front os c q) l))
    ]

    pub may-stop-at : MayStopAt tell pick M T
    may-stop-at front rest k os c now es errors r =
        let on : (d : C) → IsLeft M T (k ∷ rest) os now d → IsLeft M T (front ++ k ∷ rest) os c d
        = λ d l. left-on front (k ∷ rest) os c d es (ran-values (run M T front os c) es r.value) (subst (λ z. IsLeft M T (k ∷ rest) os z d) r.context l) in
        (on now (inl refl), λ d l. on d (inr (inl l)), on (step_of M T now (with_key k os)).0 (inr (inr (inl refl))))

    left-after : (ks : List Name) (os : List Occurrence) (c : C) → IsLeft M T ks os c (run M T ks os c).context
    unfolding run next_of
    left-after [] os c = refl
    left-after (k ∷ ks) os c = elim (cases_Bool (lost_at k os c)) [
      | inl q ↦ inr (inr (inl (lost-context k ks os c q)))
      | inr q ↦ left-kept k ks os c (run M T (k ∷ ks) os c).context q (subst (λ z. IsLeft M T ks os (next_of k os c).0 z) (sym (kept-context k ks os c q))
          (left-after ks os (next_of k os c).0))
    ]

    pub may-stop-after : MayStopAfter tell pick M T
    may-stop-after ks os c after v es r = subst (λ z. IsLeft M T ks os c z) (sym r.context) (left-after ks os c)

module _ (tell : Place → Place) {C N : Type 0} (M : Mutation C N) (T : Name) where
  run-answered : (s : Forest) (c after : C) (v : Value) (es ds : List Listed) → (r : v ≡ data_of_run (mutation_run M T s c)) →
      after ≡ (mutation_run M T s c).context →
      Met tell (is_null v) es (mutation_run M T s c).failures [] (run_nulls M T (keys (root_fields M T s c)) (root_fields M T s c) c) →
      ((p : Listed → Bool) → count_listed p ds ≡ count_listed p es) → IsTrue (is_sorted ds) → IsMutationAnswerFor M T tell s c v ds after
  run-answered s c after v es ds e f m same sorted = record {
    answer = subst (λ z. IsAnswer tell z (mutation_run M T s c).failures (null_or [] (named false []) z
        (run_nulls M T (keys (root_fields M T s c)) (root_fields M T s c) c)) v ds) e
        (is_answer tell v v (mutation_run M T s c).failures (run_nulls M T (keys (root_fields M T s c)) (root_fields M T s c) c) es ds refl m same sorted);
    context = f;
  }

  pub run-answers : RunAnswers tell M T
  run-answers s c after v es ds (inl r) same sorted = run-answered s c after v es ds r.value r.context
      (subst (λ z. Met tell (is_null v) es z [] (run_nulls M T (keys (root_fields M T s c)) (root_fields M T s c) c))
      (map-all (mutation_run M T s c).failures) r.errors) same sorted
  run-answers s c after v es ds (inr r) same sorted = run-answered s c after v es ds r.value r.context
      (firsts-stand tell (is_null v) es (mutation_run M T s c).failures [] (run_nulls M T (keys (root_fields M T s c)) (root_fields M T s c)
      c) r.errors) same sorted
