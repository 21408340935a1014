-- How many fields a walk enters at most: those of each object, and below them those of each node, whatever a null takes away (6.3, 6.4.3).
use Rattle.std.specs.Prelude.{◌≡◌, ◌<◌, ◌≤◌, ℕ, Bool, zero, suc, ◌+◌, List, [], length, Option, Some, None, Result, Ok, Err, string_bytes}
use Rattle.std.specs.List.{sum_by}
use Rattle.graphql_spec.specs.Execution.{reply_of, type_of}
use Rattle.graphql_spec.specs.Resolvers.{Reply, World}
use Rattle.graphql_spec.specs.Selections.{Forest, Occurrence, all_below, depth, keys, occurrences, with_key}
use Rattle.graphql_spec.specs.Shown.{Name, Shown}
use Rattle.graphql_spec.specs.Skeletons.{Spot, reply_node_spots}
use Rattle.juniper_syntax.specs.TypeView.{view_type}
use Rattle.juniper_values.specs.ResolvedView.{Answers}
use Rattle.juniper_walk.specs.declared.asking.Asked.{Asked}
use Rattle.juniper_walk.specs.declared.walked.Stop.{Stop}
use Rattle.juniper_walk.specs.declared.walked.Stop.TheVariants.{Memory, Spent}

-- the response keys of an object of type T for the selections s
abbrev pub own_fields : (Name → Name → Bool) → Name → Forest → ℕ
own_fields possible T s = length (keys (occurrences possible T s))

module _ {N : Type 0} (W : World N) where
  -- what f counts of the objects with which the occurrences of one response key are answered, for what they select (6.4.3)
  unfoldable pub under_key : (Name → N → List Occurrence → ℕ) → Name → N → List Occurrence → ℕ
  under_key f T m os = sum_by (λ x. f (W.concrete x.what) x.what (occurrences W.possible (W.concrete x.what) (all_below os)))
      (reply_node_spots W [] (type_of W T os) (reply_of W T m os))

  -- the response keys of the object of the node m of type T for the fields os, whose selections are at most d deep, and all below it
  unfoldable pub entered_by : ℕ → Name → N → List Occurrence → ℕ
  entered_by zero T m os = 0
  entered_by (suc d) T m os = length (keys os) + sum_by (λ k. under_key (entered_by d) T m (with_key k os)) (keys os)

  -- those of its object for the selections s
  unfoldable pub entered : Name → N → Forest → ℕ
  entered T m s = entered_by (suc (depth s)) T m (occurrences W.possible T s)

  -- those below these response keys of it
  unfoldable pub entered_at : Name → N → Forest → List Name → ℕ
  entered_at T m s ks = sum_by (λ k. under_key (entered_by (depth s)) T m (with_key k (occurrences W.possible T s))) ks

  -- those below all of them
  unfoldable pub entered_below : Name → N → Forest → ℕ
  entered_below T m s = entered_at T m s (keys (occurrences W.possible T s))

  -- those of the objects of these nodes
  unfoldable pub entered_nodes : Forest → List (Spot N) → ℕ
  entered_nodes s xs = sum_by (λ x. entered (W.concrete x.what) x.what s) xs

  -- those below the objects of these nodes, which are of type T
  unfoldable pub entered_in : Name → Forest → List (Spot N) → ℕ
  entered_in T s xs = sum_by (λ x. entered_below T x.what s) xs

  -- those below these response keys of them
  unfoldable pub entered_rows : Name → Forest → List Name → List (Spot N) → ℕ
  entered_rows T s ks xs = sum_by (λ x. entered_at T x.what s ks) xs

-- ## What is spent

-- of a budget no more was taken than n, and it is spent only where it was less
abbrev pub EntersAtMost : {A : Type 0} → ℕ → ℕ → ℕ → Result A Stop → Type 0
EntersAtMost before after n (Ok a) = before ≤ after + n
EntersAtMost before after n (Err Memory) = Unit {0}
EntersAtMost before after n (Err Spent) = before < n

-- whatever reply was asked for, no more was taken than the objects of its nodes enter, for what these occurrences select
abbrev pub CompletesWithin : {N S A : Type 0} → (S → Shown) → World N → List Occurrence → Asked N S → ℕ → ℕ → Result A Stop → Type 0
CompletesWithin {N = N} shown W os asked before after result = (reply : Reply N) → Answers shown asked.answer reply →
    EntersAtMost before after (entered_nodes W (all_below os) (reply_node_spots W [] (view_type (λ n. string_bytes n) asked.declared.now) reply)) result

-- this holds, unless memory was wanting
abbrev pub UnlessMemory : {A : Type 0} → Type 0 → Result A Stop → Type 0
UnlessMemory P (Ok a) = P
UnlessMemory P (Err Memory) = Unit {0}
UnlessMemory P (Err Spent) = P

-- where no budget is given, none is spent
abbrev pub stop_within : Option ℕ → Stop → Stop
stop_within None s = Memory
stop_within (Some n) s = s

-- a budget is spent only where one is given, and is less than n
abbrev pub SpendsGiven : {A : Type 0} → Option ℕ → ℕ → Result A Stop → Type 0
SpendsGiven fields n (Ok a) = Unit {0}
SpendsGiven fields n (Err Memory) = Unit {0}
SpendsGiven fields n (Err Spent) = (left : ℕ) × (fields ≡ Some left) × (left < n)
