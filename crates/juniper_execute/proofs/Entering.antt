-- What a mutation enters, and what the walk of it takes off a budget (6.2.2).
use Rattle.std.proofs.Common.{◌≡◌, ℕ, ◌+◌, ◌≤◌, ◌<◌, Bool, List, [], ◌++◌, drop, length, Option, Result, Ok, Err, refl, sym, ap, ◌∙◌, subst}
use Rattle.std.proofs.Math.Seq.{drop-append_seam}
use Rattle.std.specs.Result.{IsErrAnd}
use Rattle.graphql_spec.specs.Execution.{type_of}
use Rattle.graphql_spec.specs.Mutation.{Mutation, step_of}
use Rattle.graphql_spec.specs.Resolvers.{World}
use Rattle.graphql_spec.specs.Selections.{Forest, Occurrence, all_below}
use Rattle.graphql_spec.specs.Shown.{Name, Shown}
use Rattle.graphql_spec.specs.Skeletons.{reply_node_spots}
use Rattle.graphql_spec.specs.Types.{TypeRef}
use Rattle.juniper_lookahead.specs.Collected.{view_all}
use Rattle.juniper_lookahead.specs.declared.collecting.Collector.{Collector}
use Rattle.juniper_lookahead.specs.declared.occurrences.Enclosing.{Enclosing}
use Rattle.juniper_lookahead.specs.declared.occurrences.Occurrence.{Occurrence as CodeOccurrence}
use Rattle.juniper_walk.proofs.Elsewhere.{same-all, same-each}
use Rattle.juniper_walk.specs.Entered.{CompletesWithin, EntersAtMost, SpendsGiven, UnlessMemory, entered, entered_nodes, own_fields}
use Rattle.juniper_walk.specs.Plans.{all_expanded}
use Rattle.juniper_walk.specs.declared.asking.Asked.{Asked}
use Rattle.juniper_walk.specs.declared.walked.Stop.{Stop}
use Rattle.juniper_walk.specs.declared.walked.Stop.TheVariants.{Memory, Spent}
use Rattle.juniper_execute.specs.Entered.{entered_group}

-- ## Lists

pub cut-front : {A : Type 0} (xs ys zs : List A) → xs ++ ys ≡ xs ++ zs → ys ≡ zs
cut-front xs ys zs is = sym (drop-append_seam xs ys) ∙ (ap (drop (length xs)) is ∙ drop-append_seam xs zs)

-- ## Stops

-- what is known unless memory was wanting, passes through
pub through-unless : (A B P : Type 0) (s : Stop) (r : Result B Stop) → IsErrAnd r (λ y. y ≡ s) → UnlessMemory {A = A} P (Err s) → UnlessMemory P r
through-unless A B P s (Ok x) is p = absurd is
through-unless A B P s (Err y) is p = subst (λ u. UnlessMemory {A = B} P (Err u)) (sym is) (other s p)
  where
    other : (t : Stop) → UnlessMemory {A = A} P (Err t) → UnlessMemory {A = B} P (Err t)
    other Memory q = tt
    other Spent q = q

-- a budget that was spent, by another number for what is entered
pub spends-through : (A B : Type 0) (fields : Option ℕ) (n m : ℕ) (s : Stop) (r : Result B Stop) → IsErrAnd r (λ y. y ≡ s) → n ≡ m →
    SpendsGiven {A = A} fields n (Err s) → SpendsGiven fields m r
spends-through A B fields n m s (Ok x) is same p = absurd is
spends-through A B fields n m s (Err y) is same p = subst (λ u. SpendsGiven {A = B} fields m (Err u)) (sym is) (other s p)
  where
    other : (t : Stop) → SpendsGiven {A = A} fields n (Err t) → SpendsGiven {A = B} fields m (Err t)
    other Memory q = tt
    other Spent q = (q.0, q.1, subst (λ k. q.0 < k) same q.2)

-- what the same selections of a node enter
pub entered-moves : {N : Type 0} (W : World N) (m : N) (s t : Forest) (T U : Name) → T ≡ U → s ≡ t → entered W T m s ≡ entered W U m t
entered-moves W m s t T U named same = ap (λ n. entered W n m s) named ∙ ap (entered W U m) same

-- ## As another collector sees it

module _ {S P R : Type 0} (shown : S → Shown) (c : Collector S P) (d : Collector S R) (f : c.fragments.now ≡ d.fragments.now)
    (v : c.variables.now ≡ d.variables.now) where
  pub own-elsewhere : (possible : Name → Name → Bool) (T : Name) (es : List (Enclosing S)) →
      own_fields possible T (all_expanded shown c es) ≡ own_fields possible T (all_expanded shown d es)
  own-elsewhere possible T es = ap (own_fields possible T) (same-each shown c d f v es)

  pub within-elsewhere : {A N : Type 0} (W : World N) (asked : Asked N S) (os : List (CodeOccurrence S)) (before after : ℕ) (r : Result A Stop) →
      CompletesWithin shown W (view_all shown c os) asked before after r → CompletesWithin shown W (view_all shown d os) asked before after r
  within-elsewhere W asked os before after r p = subst (λ l. CompletesWithin shown W l asked before after r) (same-all shown c d f v os) p

-- ## A root group

module _ {C N : Type 0} (M : Mutation C N) (T : Name) (before after : C) where
  -- below the fields of its nodes, under the context that its step left
  group-enters : (os group : List Occurrence) → os ≡ group → (t : TypeRef) → t ≡ type_of (M.world after) T group → after ≡ (step_of M T before group).0 →
      entered_nodes (M.world after) (all_below os) (reply_node_spots (M.world after) [] t (step_of M T before group).1) ≡ entered_group M T before os
  unfolding entered_group
  group-enters os group is t typed stepped =
      let F : List Occurrence → C → TypeRef → ℕ =
      λ l c u. entered_nodes (M.world c) (all_below l) (reply_node_spots (M.world c) [] u (step_of M T before group).1) in
      let one : F os after t ≡ F group after t = ap (λ l. F l after t) is in
      let two : F group after t ≡ F group after (type_of (M.world after) T group) = ap (F group after) typed in
      let three : F group after (type_of (M.world after) T group)
      ≡ F group (step_of M T before group).0 (type_of (M.world (step_of M T before group).0) T group)
      = ap (λ c. F group c (type_of (M.world c) T group)) stepped in
      let whole : F group (step_of M T before group).0 (type_of (M.world (step_of M T before group).0) T group) ≡ entered_group M T before group = refl in
      one ∙ (two ∙ (three ∙ (whole ∙ ap (entered_group M T before) (sym is))))

  pub group-adds : (os group : List Occurrence) → os ≡ group → (t : TypeRef) → t ≡ type_of (M.world after) T group → after ≡ (step_of M T before group).0 →
      (old new : ℕ) → old ≤ new + entered_nodes (M.world after) (all_below os) (reply_node_spots (M.world after) [] t (step_of M T before group).1) →
      old ≤ new + entered_group M T before os
  group-adds os group is t typed stepped old new fits = subst (λ n. old ≤ new + n) (group-enters os group is t typed stepped) fits

  pub group-spends : (A B P : Type 0) (os group : List Occurrence) → os ≡ group → (t : TypeRef) → t ≡ type_of (M.world after) T group → (s : Stop) →
      UnlessMemory {A = A} P (Err s) → (P → after ≡ (step_of M T before group).0) → (old new : ℕ) →
      EntersAtMost {A = A} old new
      (entered_nodes (M.world after) (all_below os) (reply_node_spots (M.world after) [] t (step_of M T before group).1)) (Err s) →
      EntersAtMost {A = B} old new (entered_group M T before os) (Err s)
  group-spends A B P os group is t typed Memory told stepped old new fits = tt
  group-spends A B P os group is t typed Spent told stepped old new fits = subst (λ n. old < n) (group-enters os group is t typed (stepped told)) fits
