-- Data is of its types.
use Rattle.std.proofs.Common.{◌≡◌, ◌≤◌, ◌⊎◌, ◌&&◌, ℕ, zero, suc, Bool, true, false, List, [], ◌∷◌, Option, None, Some, refl, sym, ap, ◌∙◌, inl, inr, subst}
use Rattle.std.proofs.Common.{arith}
use Rattle.std.proofs.lemmas.Bool.{cases_Bool, both_ways, or_parts}
use Rattle.graphql_spec.specs.Shown.{Name}
use Rattle.graphql_spec.specs.Values.{Value, null, object, Entries, no_entries, any_null, is_null}
use Rattle.graphql_spec.specs.Types.{TypeRef, named, list_of, required}
use Rattle.graphql_spec.specs.Inputs.{Variables}
use Rattle.graphql_spec.specs.Constants.{Members}
use Rattle.graphql_spec.specs.Documents.{OperationType, query, mutation, subscription}
use Rattle.graphql_spec.specs.Schema.{Schema}
use Rattle.graphql_spec.specs.Fields.{is_possible, accepts}
use Rattle.graphql_spec.specs.Placed.{root_type}
use Rattle.graphql_spec.specs.Selections.{Forest, depth, Occurrence, occurrences, keys, with_key, all_below}
use Rattle.graphql_spec.specs.Resolvers.{Tree, nothing, leaf, items, node, Trees, no_trees, tree, Reply, answered, failed, World, world_of}
use Rattle.graphql_spec.specs.Execution.{whole_list, entries, is_lost, whole_object, complete, complete_all, finish, type_of, reply_of, of_key, grouped}
use Rattle.graphql_spec.specs.Execution.{data_of, value_of}
use Rattle.graphql_spec.specs.Errors.{Place, Listed}
use Rattle.graphql_spec.specs.Mutation.{Mutation, Run, step_of, loses, run, data_of_run}
use Rattle.graphql_spec.specs.Requests.{selected}
use Rattle.graphql_spec.proofs.Depth.{Fits, fits-occurrences, fits-below, fits-key}
use Rattle.graphql_spec.specs.Outcomes.{Service, Steps, IsExecuted, mutation_in}
use Rattle.graphql_spec.specs.TypedData.{asked_type, MayHold, AllMayHold, HasFields, IsDataOf, DataIsTyped, ResponseIsTyped}
use Rattle.graphql_spec.proofs.Running.{behind-some, run-lost, kept-values, group_value, next_of, lost_at}
use Rattle.graphql_spec.proofs.OneOutcome.{executed}

not-null : (v : Value) → v ≡ null → is_null v ≡ false → ⊥
unfolding is_null
not-null v e q = both_ways (is_null v) q (ap is_null e)

module _ {N : Type 0} (s : Schema) (vars : Variables) (concrete : N → Name) (answer : N → Name → Members → Reply N) where
  abbrev W : World N
  W = world_of s vars concrete answer

  -- null, or what may stand there
  abbrev pub Held : TypeRef → Forest → Value → Type 0
  Held t below v = (v ≡ null) ⊎ MayHold s t below v

  abbrev pub ObjectHeld : Name → List Occurrence → Value → Type 0
  ObjectHeld T os v = (v ≡ null) ⊎ ((es : Entries) × (v ≡ object es) × HasFields s T os (keys os) es)

  type-same : (T : Name) (os : List Occurrence) → type_of W T os ≡ asked_type s T os
  unfolding type_of asked_type world_of
  type-same T [] = refl
  type-same T (o ∷ os) = refl

  module _ (below : Forest) (at : Name → N → Value) (inside : (U : Name) (m : N) → ObjectHeld U (occurrences (is_possible s) U below) (at U m)) where
    mutual
      unfolding complete MayHold whole_list any_null required world_of

      complete-held : (t : TypeRef) (a : Tree N) → Held t below (complete W at t a)
      complete-held (named r n) nothing = inl refl
      complete-held (list_of r size t) nothing = inl refl
      complete-held (named r n) (leaf x) = elim (cases_Bool (accepts s n x)) [ inl e ↦ rw e (inr e) | inr e ↦ rw e (inl refl) ]
      complete-held (named r n) (node m) = elim (cases_Bool (is_possible s (concrete m) n)) [
        | inl e ↦ rw e (elim (inside (concrete m) m) [
          | inl z ↦ inl z
          | inr z ↦ inr (rw (z.1) (concrete m, e, z.2))
        ])
        | inr e ↦ rw e (inl refl)
      ]
      complete-held (named r n) (items ts) = inl refl
      complete-held (list_of r size t) (leaf x) = inl refl
      complete-held (list_of r size t) (node m) = inl refl
      complete-held (list_of r size t) (items ts) = elim (cases_Bool (required t)) [
        | inl e ↦ elim (cases_Bool (any_null (complete_all W at t ts))) [
          | inl q ↦ rw (e, q) (inl refl)
          | inr q ↦ rw (e, q) (inr (all-held t ts (inr q)))
        ]
        | inr e ↦ rw e (inr (all-held t ts (inl e)))
      ]

      all-held : (t : TypeRef) (ts : Trees N) → (required t ≡ false) ⊎ (any_null (complete_all W at t ts) ≡ false) →
          AllMayHold s t below (complete_all W at t ts)
      all-held t no_trees h = tt
      all-held t (tree a rest) (inl e) = (elim (complete-held t a) [ inl z ↦ rw z e | inr z ↦ z ], all-held t rest (inl e))
      all-held t (tree a rest) (inr e) =
          let p = or_parts (is_null (complete W at t a)) (any_null (complete_all W at t rest)) e in
          (elim (complete-held t a) [ inl z ↦ absurd (not-null (complete W at t a) z p.0) | inr z ↦ z ], all-held t rest (inr p.1))

    finish-held : (t : TypeRef) (r : Reply N) → Held t below (finish W at t r)
    unfolding finish
    finish-held t (answered a) = complete-held t a
    finish-held t (failed e) = inl refl

  -- a field that is not lost
  kept : (t : TypeRef) (below : Forest) (v : Value) → Held t below v → (required t && is_null v) ≡ false → MayHold s t below v
  unfolding MayHold is_null
  kept t below v (inr h) e = h
  kept t below v (inl z) e = go (required t) refl
    where
      go : (b : Bool) → required t ≡ b → MayHold s t below v
      go true q = absurd (both_ways false refl (sym (rw (z, q) at e)))
      go false q = rw z q

  fields-held : (T : Name) (os : List Occurrence) (ks : List Name) (f : Name → Value) →
      ((k : Name) → Held (asked_type s T (with_key k os)) (all_below (with_key k os)) (f k)) →
      is_lost ks (λ k. asked_type s T (with_key k os)) f ≡ false → HasFields s T os ks (entries ks f)
  unfolding MayHold entries is_lost
  fields-held T os [] f h e = tt
  fields-held T os (k ∷ ks) f h e =
      let p = or_parts (required (asked_type s T (with_key k os)) && is_null (f k)) (is_lost ks (λ k. asked_type s T (with_key k os)) f) e in
      (refl, kept (asked_type s T (with_key k os)) (all_below (with_key k os)) (f k) (h k) p.0, fields-held T os ks f h p.1)

  whole-held : (T : Name) (os : List Occurrence) (f : Name → Value) → ((k : Name) → Held (asked_type s T (with_key k os)) (all_below (with_key k os)) (f k)) →
      ObjectHeld T os (whole_object (keys os) (λ k. type_of W T (with_key k os)) f)
  unfolding whole_object
  whole-held T os f h = subst (λ (t : Name → TypeRef). ObjectHeld T os (whole_object (keys os) t f)) (λ i k. sym (type-same T (with_key k os)) i)
      (elim (cases_Bool (is_lost (keys os) (λ k. asked_type s T (with_key k os)) f)) [
        | inl e ↦ rw e (inl refl)
        | inr e ↦ rw e (inr (entries (keys os) f, refl, fields-held T os (keys os) f h e))
      ])

  none-fit : (os : List Occurrence) → Fits 0 os → os ≡ []
  none-fit [] f = refl
  none-fit (o ∷ os) f = let r : suc (depth o.below) ≤ 0 = f o (inl refl) in absurd (omega (arith, r))

  no-fields : (T : Name) → HasFields s T [] (keys []) no_entries
  unfolding MayHold keys
  no-fields T = tt

  pub grouped-held : (d : ℕ) (T : Name) (m : N) (os : List Occurrence) → Fits d os → ObjectHeld T os (grouped W d T m os)
  unfolding grouped of_key world_of
  grouped-held zero T m os f = inr (no_entries, refl, rw (none-fit os f) (no-fields T))
  grouped-held (suc d) T m os f = whole-held T os (λ k. of_key W (grouped W d) T m (with_key k os)) (λ k.
      subst (λ t. Held t (all_below (with_key k os)) (of_key W (grouped W d) T m (with_key k os))) (type-same T (with_key k os))
      (finish-held (all_below (with_key k os)) (λ U n. grouped W d U n (occurrences (is_possible s) U (all_below (with_key k os))))
      (λ U n. grouped-held d U n (occurrences (is_possible s) U (all_below (with_key k os)))
      (fits-below d (is_possible s) U (with_key k os) (fits-key (suc d) k os f)))
      (type_of W T (with_key k os)) (reply_of W T m (with_key k os))))

  pub data-held : (T : Name) (m : N) (below : Forest) → IsDataOf s T below (data_of W T m below)
  unfolding data_of world_of
  data-held T m below = grouped-held (depth below) T m (occurrences (is_possible s) T below) (fits-occurrences (is_possible s) T below)

  pub value-held : (t : TypeRef) (r : Reply N) (below : Forest) → Held t below (value_of W t r below)
  unfolding value_of
  value-held t r below = finish-held below (λ T m. data_of W T m below) (λ U m. data-held U m below) t r

pub data-is-typed : (N : Type 0) (s : Schema) → DataIsTyped s N
data-is-typed N s vars concrete answer T m below = data-held s vars concrete answer T m below

module _ {C N : Type 0} (S : Service C N) (m : Steps C N) (vars : Variables) (T : Name) where
  abbrev M : Mutation C N
  M = mutation_in S m vars

  in-step : (k : Name) (os : List Occurrence) (c : C) → lost_at M T k os c ≡ false →
      MayHold S.schema (asked_type S.schema T (with_key k os)) (all_below (with_key k os)) (group_value M T (with_key k os) (next_of M T k os c))
  unfolding lost_at loses group_value next_of
  in-step k os c e =
      let n = step_of M T c (with_key k os) in
      let same = type-same S.schema vars (S.concrete n.0) (S.answer n.0) T (with_key k os) in
      subst (λ t. MayHold S.schema t (all_below (with_key k os)) (value_of (M.world n.0) (type_of (M.world n.0) T (with_key k os)) n.1
      (all_below (with_key k os)))) same
      (kept S.schema vars (S.concrete n.0) (S.answer n.0) (type_of (M.world n.0) T (with_key k os)) (all_below (with_key k os))
      (value_of (M.world n.0) (type_of (M.world n.0) T (with_key k os)) n.1 (all_below (with_key k os)))
      (value-held S.schema vars (S.concrete n.0) (S.answer n.0) (type_of (M.world n.0) T (with_key k os)) n.1 (all_below (with_key k os))) e)

  run-held : (ks : List Name) (os : List Occurrence) (c : C) (es : Entries) → (run M T ks os c).values ≡ Some es → HasFields S.schema T os ks es
  unfolding run MayHold
  run-held [] os c es e = let q : no_entries ≡ es = cc in rw (← q) tt
  run-held (k ∷ ks) os c es e = elim (cases_Bool (lost_at M T k os c)) [
    | inl q ↦ let z : None ≡ Some es = sym (ap (λ (x : Run C). x.values) (run-lost M T k ks os c q)) ∙ e in cc
    | inr q ↦
        let n : C × Reply N = next_of M T k os c in
        let b = behind-some k (group_value M T (with_key k os) n) (run M T ks os n.0).values es (kept-values M T k ks os c es q e) in
        subst (λ z. HasFields S.schema T os (k ∷ ks) z) (sym b.2) (refl, in-step k os c q, run-held ks os n.0 b.0 b.1)
  ]

  run-data : (os : List Occurrence) (c : C) → (data_of_run (run M T (keys os) os c) ≡ null) ⊎
      ((es : Entries) × (data_of_run (run M T (keys os) os c) ≡ object es) × HasFields S.schema T os (keys os) es)
  unfolding data_of_run
  run-data os c = go (run M T (keys os) os c).values refl
    where
      go : (x : Option Entries) → (run M T (keys os) os c).values ≡ x → (elim (run M T (keys os) os c).values [ None ↦ null | Some es ↦ object es ]
          ≡ null) ⊎ ((es : Entries) × (elim (run M T (keys os) os c).values [ None ↦ null | Some es ↦ object es ] ≡ object es) ×
          HasFields S.schema T os (keys os) es)
      go None e = rw e (inl refl)
      go (Some es) e = let h = run-held (keys os) os c es e in rw e (inr (es, refl, h))

module _ {C N : Type 0} (S : Service C N) where
  same-some : {A : Type 0} (x y : A) → Some x ≡ Some y → x ≡ y
  same-some x y q = cc

  executed-typed : (tell : Place → Place) (k : OperationType) (vars : Variables) (below : Forest) (c after : C) (v : Value) (es : List Listed) →
      IsExecuted S tell k vars below c v es after →
      (T : Name) → root_type S.schema k ≡ Some T → IsDataOf S.schema T below v
  unfolding root_type world_of
  executed-typed tell query vars below c after v es x T e =
      subst (λ z. IsDataOf S.schema z below v) (same-some S.schema.query T e)
      (subst (λ z. IsDataOf S.schema S.schema.query below z) (sym x.0.is_data) (data-held S.schema vars (S.concrete c) (S.answer c) S.schema.query S.root
      below))
  executed-typed tell mutation vars below c after v es x T e =
      subst (λ z. IsDataOf S.schema z below v) (same-some x.1 T (sym x.2.1 ∙ e))
      (subst (λ z. IsDataOf S.schema x.1 below z) (sym x.3.answer.is_data) (run-data S x.0 vars x.1 (occurrences (is_possible S.schema) x.1 below) c))
  executed-typed tell subscription vars below c after v es x T e = absurd x

  pub response-is-typed : ResponseIsTyped S
  response-is-typed tell q d o vars k c after v es x T e = executed-typed tell o.kind vars (selected d o vars) c after v es
      (executed S tell q d o vars k c after v es x) T e
