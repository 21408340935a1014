-- How a mutation is walked root group by root group, and what a walk that is cut short leaves (6.2.2).
use Rattle.std.specs.Prelude.{Bool, true, false, ◌&&◌, ◌≡◌, List, [], ◌∷◌, ◌++◌, map, IsTrue, ◌⊎◌}
use Rattle.graphql_spec.specs.Shown.{Name}
use Rattle.graphql_spec.specs.Positions.{Position}
use Rattle.graphql_spec.specs.Values.{Value, null, object, Entries, no_entries, is_null, put}
use Rattle.graphql_spec.specs.Types.{TypeRef, required}
use Rattle.graphql_spec.specs.Errors.{Place, key, Listed, is_sorted}
use Rattle.graphql_spec.specs.Selections.{Forest, Occurrence, keys, with_key}
use Rattle.graphql_spec.specs.Resolvers.{Reply}
use Rattle.graphql_spec.specs.Execution.{type_of}
use Rattle.graphql_spec.specs.Mutation.{Mutation, step_of, run, torn_of, IsLeft, data_of_run, run_nulls, root_fields}
use Rattle.graphql_spec.specs.Walk.{Met, count_listed, IsMutationAnswerFor}
use Rattle.graphql_spec.specs.GroupLaws.{for_picked, all_starts, first_start, GroupCompleted}

module _ (tell : Place → Place) (pick : List Position → List Position) {C N : Type 0} (M : Mutation C N) (T : Name) where
  -- the groups of the keys ks were walked from the context c (6.2.2): the data, what was listed of what fails in them, and the
  -- context after
  pub record HasRun (ks : List Name) (os : List Occurrence) (c : C) (v : Value) (es : List Listed) (after : C) : Type 0 where
    pub value : v ≡ data_of_run (run M T ks os c)
    pub errors : Met tell (is_null v) es (map (for_picked pick) (run M T ks os c).failures) [] (run_nulls M T ks os c)
    pub context : after ≡ (run M T ks os c).context

  -- before the first group (6.2.2)
  abbrev pub NoneRan : Type 0
  NoneRan = (os : List Occurrence) (c : C) → HasRun [] os c (object no_entries) [] c

  -- One more group (6.2.2): it takes its step in the context that the groups before it left, and the reply is completed under the
  -- context that the step leaves. Where its null does not rise, its value is put at its key; else nothing runs after it.
  abbrev pub OneMoreRan : Type 0
  OneMoreRan = (front rest : List Name) (k : Name) (os : List Occurrence) → keys os ≡ front ++ k ∷ rest →
      (c now : C) (es : Entries) (errors : List Listed) → HasRun front os c (object es) errors now →
      (let next : C × Reply N = step_of M T now (with_key k os) in let t : TypeRef = type_of (M.world next.0) T (with_key k os) in
      (v : Value) (more : List Listed) → GroupCompleted tell pick (M.world next.0) (key k ∷ []) [] t next.1 (with_key k os) v more →
      ((is_null v && required t) ≡ false → HasRun (front ++ k ∷ []) os c (object (put k v es)) (errors ++ more) next.0)
      × ((is_null v && required t) ≡ true → HasRun (front ++ k ∷ rest) os c null (errors ++ more) next.0))

-- what was walked of all groups is an answer (6.2.2), with the same errors in an order that is sorted: where each failure was listed
-- for all occurrences of its field, or for the first alone
abbrev pub RunAnswers : (Place → Place) → {C N : Type 0} → Mutation C N → Name → Type 0
RunAnswers tell {C} M T = (s : Forest) (c after : C) (v : Value) (es ds : List Listed) →
    HasRun tell all_starts M T (keys (root_fields M T s c)) (root_fields M T s c) c v es after ⊎
    HasRun tell first_start M T (keys (root_fields M T s c)) (root_fields M T s c) c v es after →
    ((p : Listed → Bool) → count_listed p ds ≡ count_listed p es) → IsTrue (is_sorted ds) → IsMutationAnswerFor M T tell s c v ds after

-- ## Want of memory

module _ (tell : Place → Place) (pick : List Position → List Position) {C N : Type 0} (M : Mutation C N) (T : Name) where
  -- before a group, whatever its turn, the context is one that a run may leave (6.2.2); so is one that is torn by its step, and the
  -- one after its step
  abbrev pub MayStopAt : Type 0
  MayStopAt = (front rest : List Name) (k : Name) (os : List Occurrence) (c now : C) (es : Entries) (errors : List Listed) →
      HasRun tell pick M T front os c (object es) errors now →
      IsLeft M T (front ++ k ∷ rest) os c now
      × ((torn : C) → IsTrue (torn_of M T now (with_key k os) torn) → IsLeft M T (front ++ k ∷ rest) os c torn)
      × IsLeft M T (front ++ k ∷ rest) os c (step_of M T now (with_key k os)).0

  -- and so is the context after all groups that ran (6.2.2)
  abbrev pub MayStopAfter : Type 0
  MayStopAfter = (ks : List Name) (os : List Occurrence) (c after : C) (v : Value) (es : List Listed) → HasRun tell pick M T ks os c v es after →
      IsLeft M T ks os c after
