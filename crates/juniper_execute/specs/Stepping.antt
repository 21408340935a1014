-- What is known of the root groups of a mutation that were run (6.2.2).
use Rattle.std.specs.Prelude.{◌≡◌, ◌⊎◌, ◌&&◌, ◌++◌, Bool, List, [], ◌∷◌, IsTrue, MatchResult, cond, map, Result, Ok, Err}
use Rattle.graphql_spec.specs.Shown.{Name, Shown}
use Rattle.graphql_spec.specs.Positions.{Position}
use Rattle.graphql_spec.specs.Values.{Value, Entries, is_null, put}
use Rattle.graphql_spec.specs.Types.{required}
use Rattle.graphql_spec.specs.Errors.{key, Listed}
use Rattle.graphql_spec.specs.ExactAnswers.{whole}
use Rattle.graphql_spec.specs.GroupLaws.{GroupCompleted}
use Rattle.graphql_spec.specs.Selections.{Forest, Occurrence, keys, with_key}
use Rattle.graphql_spec.specs.Execution.{type_of}
use Rattle.graphql_spec.specs.Mutation.{IsLeft, Mutation, root_fields, step_of, torn_of}
use Rattle.graphql_spec.specs.MutationLaws.{HasRun}
use Rattle.juniper_conversions.specs.ErrorView.{view_listed}
use Rattle.juniper_conversions.specs.declared.execution_error.ExecutionError.{ExecutionError}
use Rattle.juniper_conversions.specs.declared.field_error.ResolveError.{ResolveError}
use Rattle.juniper_conversions.specs.declared.field_error.ResolveError.TheVariants.{Field, Memory}
use Rattle.juniper_syntax.specs.ValueView.{view_object, view_value}
use Rattle.juniper_syntax.specs.declared.value.Object.{Object}
use Rattle.juniper_walk.specs.declared.walked.Walked.{Walked}

-- What a step leaves, if next is what it should: an answer or an error of the field leaves that; want of memory that, or a context that may be
-- torn from the step.
abbrev pub MayLeave : {A S C : Type 0} → C → (C → Bool) → Result A (ResolveError S) → C → Type 0
MayLeave next torn (Ok r) after = after ≡ next
MayLeave next torn (Err (Field e)) after = after ≡ next
MayLeave next torn (Err Memory) after = IsTrue (torn after) ⊎ (after ≡ next)

-- ## Only private clauses cite what follows

module _ {C N : Type 0} (M : Mutation C N) (T : Name) where
  -- An answer leaves the context that the group's step leaves; where memory was wanting, the context is as it was, torn from it by the
  -- step, or that which the step leaves.
  abbrev pub StepLeaves : {A S : Type 0} → List Occurrence → C → Result A (ResolveError S) → C → Type 0
  StepLeaves group before (Ok r) after = after ≡ (step_of M T before group).0
  StepLeaves group before (Err (Field e)) after = after ≡ (step_of M T before group).0
  StepLeaves group before (Err Memory) after = (after ≡ before) ⊎ (IsTrue (torn_of M T before group after) ⊎ (after ≡ (step_of M T before group).0))

  -- where memory was wanting in a group
  abbrev pub GroupStopped : List Occurrence → C → C → Type 0
  GroupStopped group before after = (after ≡ before) ⊎ (IsTrue (torn_of M T before group after) ⊎ (after ≡ (step_of M T before group).0))

  -- what a run of the selections s that is cut short leaves (6.2.2)
  abbrev pub IsLeftOf : Forest → C → C → Type 0
  IsLeftOf s c after = IsLeft M T (keys (root_fields M T s c)) (root_fields M T s c) c after

  -- a group took its step, its reply was completed under the context that the step left, and its value put in, unless its null rises
  pub record GroupRan (pick : List Position → List Position) (k : Name) (os : List Occurrence) (before : C) (entries : Entries) (errors : List Listed)
      (rises : Bool) (put_in : Entries)
      (listed : List Listed) (after : C) : Type 0 where
    pub value : Value
    pub more : List Listed
    pub context : after ≡ (step_of M T before (with_key k os)).0
    pub completed : GroupCompleted whole pick (M.world (step_of M T before (with_key k os)).0) (key k ∷ []) []
        (type_of (M.world (step_of M T before (with_key k os)).0) T (with_key k os)) (step_of M T before (with_key k os)).1 (with_key k os) value more
    pub loses : rises ≡ (is_null value && required (type_of (M.world (step_of M T before (with_key k os)).0) T (with_key k os)))
    pub lists : listed ≡ errors ++ more
    pub puts : put_in ≡ cond rises entries (put k value entries)

-- a value was put at a key, unless its null rises, and its errors behind those before
pub record IsGiven (k : Name) (r : Bool) (v : Value) (more : List Listed) (rises : Bool) (entries put_in : Entries) (errors listed : List Listed) : Type 0 where
  pub loses : rises ≡ (is_null v && r)
  pub lists : listed ≡ errors ++ more
  pub puts : put_in ≡ cond rises entries (put k v entries)

-- the same of what was walked
abbrev pub IsGivenTo : {S : Type 0} → (S → Shown) → Name → Bool → Walked S → Bool → Object S → Object S → List (ExecutionError S) →
    List (ExecutionError S) → Type 0
IsGivenTo shown k r w rises entries put_in errors listed = IsGiven k r (view_value shown w.value) (map (view_listed shown) w.errors.items) rises
    (view_object shown entries) (view_object shown put_in) (map (view_listed shown) errors) (map (view_listed shown) listed)

module _ {C N S E : Type 0} (shown : S → Shown) (M : Mutation C N) (T : Name) (pick : List Position → List Position) where
  -- a group ran, or memory was wanting in it
  abbrev pub RunsGroup : Name → List Occurrence → C → Object S → List (ExecutionError S) → Result Bool E → Object S → List (ExecutionError S) → C → Type 0
  RunsGroup k os before entries errors result put_in listed after = MatchResult result
      (λ rises. GroupRan M T pick k os before (view_object shown entries) (map (view_listed shown) errors) rises (view_object shown put_in)
      (map (view_listed shown) listed) after) (λ _. GroupStopped M T (with_key k os) before after)

  -- all groups ran, up to and with the first whose null rises, or memory was wanting in one
  abbrev pub RunsGroups : List Occurrence → C → Result (Walked S) E → C → Type 0
  RunsGroups os before result after = MatchResult result
      (λ w. HasRun whole pick M T (keys os) os before (view_value shown w.value) (map (view_listed shown) w.errors.items) after)
      (λ _. IsLeft M T (keys os) os before after)
