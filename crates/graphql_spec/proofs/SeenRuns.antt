-- A mutation's run over nodes that are seen as others: the same groups run, with the same values, contexts, failures and standing nulls.
use Rattle.std.proofs.Common.{◌≡◌, ◌&&◌, ◌++◌, not, Bool, cond, List, [], ◌∷◌, None, IsTrue, refl, sym, ap, ap₂, subst, ◌∙◌, inl, inr}
use Rattle.std.proofs.lemmas.Bool.{cases_Bool}
use Rattle.std.specs.Str.{bytes_eq}
use Rattle.graphql_spec.specs.Shown.{Name}
use Rattle.graphql_spec.specs.Inputs.{Variables}
use Rattle.graphql_spec.specs.Constants.{Members}
use Rattle.graphql_spec.specs.Schema.{Schema}
use Rattle.graphql_spec.specs.Types.{TypeRef, required}
use Rattle.graphql_spec.specs.Fields.{typename, is_possible}
use Rattle.graphql_spec.specs.Values.{Value, is_null}
use Rattle.graphql_spec.specs.Errors.{Place, key}
use Rattle.graphql_spec.specs.Selections.{Occurrence, occurrences, with_key, all_below, depth}
use Rattle.graphql_spec.specs.Resolvers.{Reply, world_of}
use Rattle.graphql_spec.specs.Execution.{type_of, data_of, value_of}
use Rattle.graphql_spec.specs.Failures.{Failure, starts_of, reply_faults, failures_of}
use Rattle.graphql_spec.specs.Nulls.{nulls_of, reply_standing}
use Rattle.graphql_spec.specs.Mutation.{Mutation, Run, after_key, step_of, run, torn_of, loses, IsLeft, group_nulls, run_nulls}
use Rattle.graphql_spec.specs.Outcomes.{Steps}
use Rattle.graphql_spec.specs.SeenNodes.{map_tree, map_reply}
use Rattle.graphql_spec.specs.SeenServices.{seen_steps, mutation_of}
use Rattle.graphql_spec.proofs.SeenNodes.{Selects, selects-key, selects-below, finish-seen, grouped-seen, reply_faults-seen, failures-seen, reply_standing-seen}
use Rattle.graphql_spec.proofs.SeenNodes.{nulls-seen}

module _ {C M N : Type 0} (s : Schema) (vars : Variables) (h : M → N) (concrete : C → M → Name) (answer : C → M → Name → Members → Reply M)
    (concrete' : C → N → Name) (answer' : C → N → Name → Members → Reply N) (same_type : (c : C) (m : M) → concrete c m ≡ concrete' c (h m))
    (passes : Name → Bool) (same_reply : (c : C) (m : M) (f : Name) (args : Members) → IsTrue (passes f) →
    map_reply h (answer c m f args) ≡ answer' c (h m) f args)
    (steps : Steps C M) (T : Name) where
  abbrev V : Mutation C M
  V = mutation_of s vars concrete answer steps

  abbrev W : Mutation C N
  W = mutation_of s vars concrete' answer' (seen_steps h steps)

  step-seen : (c : C) (os : List Occurrence) → step_of W T c os ≡ ((step_of V T c os).0, map_reply h (step_of V T c os).1)
  unfolding step_of mutation_of seen_steps map_reply map_tree world_of
  step-seen c [] = refl
  step-seen c (o ∷ os) = elim (cases_Bool (bytes_eq o.head.name.item typename)) [ inl q ↦ rw q refl | inr q ↦ rw q refl ]

  torn-seen : (c : C) (os : List Occurrence) (d : C) → torn_of W T c os d ≡ torn_of V T c os d
  unfolding torn_of mutation_of seen_steps world_of
  torn-seen c [] d = refl
  torn-seen c (o ∷ os) d = refl

  data-seen : (c : C) (os : List Occurrence) → Selects passes os → (U : Name) (m : M) →
      data_of (V.world c) U m (all_below os) ≡ data_of (W.world c) U (h m) (all_below os)
  unfolding data_of mutation_of world_of
  data-seen c os p U m = grouped-seen s vars h (concrete c) (answer c) (concrete' c) (answer' c) (same_type c) passes (same_reply c) (depth (all_below os)) U m
      (occurrences (is_possible s) U (all_below os)) (selects-below passes (is_possible s) U os p)

  value-seen : (c : C) (t : TypeRef) (r : Reply M) (os : List Occurrence) → Selects passes os →
      value_of (V.world c) t r (all_below os) ≡ value_of (W.world c) t (map_reply h r) (all_below os)
  unfolding value_of mutation_of world_of
  value-seen c t r os p = finish-seen s vars h (concrete c) (answer c) (concrete' c) (answer' c) (same_type c)
      (λ U n. data_of (V.world c) U n (all_below os)) (λ U n. data_of (W.world c) U n (all_below os)) (data-seen c os p) t r

  faults-seen : (c : C) (here : Place) (t : TypeRef) (r : Reply M) (os : List Occurrence) → Selects passes os →
      reply_faults (V.world c) (λ place to U n. failures_of (V.world c) place to U n (all_below os)) here (starts_of os) [] t r
      ≡ reply_faults (W.world c) (λ place to U n. failures_of (W.world c) place to U n (all_below os)) here (starts_of os) [] t (map_reply h r)
  unfolding failures_of mutation_of world_of
  faults-seen c here t r os p = reply_faults-seen s vars h (concrete c) (answer c) (concrete' c) (answer' c) (same_type c)
      (λ place to U n. failures_of (V.world c) place to U n (all_below os)) (λ place to U n. failures_of (W.world c) place to U n (all_below os))
      (λ place to U n. failures-seen s vars h (concrete c) (answer c) (concrete' c) (answer' c) (same_type c) passes (same_reply c)
      (depth (all_below os)) place to U n
      (occurrences (is_possible s) U (all_below os)) (selects-below passes (is_possible s) U os p)) here (starts_of os) [] t r

  standing-seen : (c : C) (here : Place) (t : TypeRef) (r : Reply M) (os : List Occurrence) → Selects passes os →
      reply_standing (V.world c) (λ U n. data_of (V.world c) U n (all_below os)) (λ place U n. nulls_of (V.world c) place U n (all_below os)) here t r
      ≡ reply_standing (W.world c) (λ U n. data_of (W.world c) U n (all_below os)) (λ place U n. nulls_of (W.world c) place U n (all_below os)) here t
      (map_reply h r)
  unfolding nulls_of mutation_of world_of
  standing-seen c here t r os p = reply_standing-seen s vars h (concrete c) (answer c) (concrete' c) (answer' c) (same_type c)
      (λ U n. data_of (V.world c) U n (all_below os)) (λ U n. data_of (W.world c) U n (all_below os)) (data-seen c os p)
      (λ place U n. nulls_of (V.world c) place U n (all_below os)) (λ place U n. nulls_of (W.world c) place U n (all_below os))
      (λ place U n. nulls-seen s vars h (concrete c) (answer c) (concrete' c) (answer' c) (same_type c) passes (same_reply c) (depth (all_below os)) place U n
      (occurrences (is_possible s) U (all_below os)) (selects-below passes (is_possible s) U os p)) here t r

  type-same : (c : C) (os : List Occurrence) → type_of (V.world c) T os ≡ type_of (W.world c) T os
  unfolding type_of mutation_of world_of
  type-same c [] = refl
  type-same c (o ∷ os) = refl

  -- what a group's step makes of what ran after it
  made : Name → TypeRef → Value → List Failure → C → Run C → Run C
  made k t v fs c r = cond (required t && is_null v) (record { values = None; context = c; failures = fs }) (after_key k v fs r)

  -- what a step of a group and the groups after it make, over the nodes that are seen
  after : Name → List Name → List Occurrence → C × Reply N → Run C
  after k ks os next =
      let g : List Occurrence = with_key k os in
      let t : TypeRef = type_of (W.world next.0) T g in
      made k t (value_of (W.world next.0) t next.1 (all_below g)) (reply_faults (W.world next.0)
      (λ place to U n. failures_of (W.world next.0) place to U n (all_below g)) (key k ∷ []) (starts_of g) [] t next.1) next.0 (run W T ks os next.0)

  after-with : Name → List Occurrence → TypeRef → C → Reply M → Run C → Run C
  after-with k g t c r left = made k t (value_of (W.world c) t (map_reply h r) (all_below g))
      (reply_faults (W.world c) (λ place to U n. failures_of (W.world c) place to U n (all_below g)) (key k ∷ []) (starts_of g) [] t (map_reply h r)) c left

  pub run-seen : (ks : List Name) (os : List Occurrence) → Selects passes os → (c : C) → run V T ks os c ≡ run W T ks os c
  unfolding run made after after-with
  run-seen [] os p c = refl
  run-seen (k ∷ ks) os p c =
      let g : List Occurrence = with_key k os in
      let c' : C = (step_of V T c g).0 in
      let r : Reply M = (step_of V T c g).1 in
      let q = selects-key passes k os p in
      let t : TypeRef = type_of (W.world c') T g in
      let fails : TypeRef → List Failure = λ u. reply_faults (V.world c') (λ place to U n. failures_of (V.world c') place to U n (all_below g)) (key k ∷ [])
      (starts_of g) [] u r in
      let left : Run C = run V T ks os c' in
      ap (λ (u : TypeRef). made k u (value_of (V.world c') u r (all_below g)) (fails u) c' left) (type-same c' g)
      ∙ (ap (λ (v : Value). made k t v (fails t) c' left) (value-seen c' t r g q)
      ∙ (ap (λ (fs : List Failure). made k t (value_of (W.world c') t (map_reply h r) (all_below g)) fs c' left) (faults-seen c' (key k ∷ []) t r g q)
      ∙ (ap (λ (w : Run C). after-with k g t c' r w) (run-seen ks os p c')
      ∙ sym (ap (after k ks os) (step-seen c g)))))

  loses-seen : (g : List Occurrence) → Selects passes g → (c : C) → loses V T g (step_of V T c g) ≡ loses W T g (step_of W T c g)
  unfolding loses
  loses-seen g p c =
      let c' : C = (step_of V T c g).0 in
      let r : Reply M = (step_of V T c g).1 in
      ap (λ (u : TypeRef). required u && is_null (value_of (V.world c') u r (all_below g))) (type-same c' g)
      ∙ (ap (λ (v : Value). required (type_of (W.world c') T g) && is_null v) (value-seen c' (type_of (W.world c') T g) r g p)
      ∙ sym (ap (λ (next : C × Reply N). required (type_of (W.world next.0) T g)
      && is_null (value_of (W.world next.0) (type_of (W.world next.0) T g) next.1 (all_below g))) (step-seen c g)))

  -- the standing nulls of a group whose step left this
  standing-after : Name → List Occurrence → C × Reply N → List Place
  standing-after k g next = reply_standing (W.world next.0) (λ U n. data_of (W.world next.0) U n (all_below g))
      (λ place U n. nulls_of (W.world next.0) place U n (all_below g)) (key k ∷ []) (type_of (W.world next.0) T g) next.1

  group_nulls-seen : (k : Name) (g : List Occurrence) → Selects passes g → (c : C) → group_nulls V T k g c ≡ group_nulls W T k g c
  unfolding group_nulls standing-after
  group_nulls-seen k g p c =
      let c' : C = (step_of V T c g).0 in
      let r : Reply M = (step_of V T c g).1 in
      ap (λ (u : TypeRef). reply_standing (V.world c') (λ U n. data_of (V.world c') U n (all_below g))
      (λ place U n. nulls_of (V.world c') place U n (all_below g)) (key k ∷ []) u r) (type-same c' g)
      ∙ (standing-seen c' (key k ∷ []) (type_of (W.world c') T g) r g p
      ∙ sym (ap (standing-after k g) (step-seen c g)))

  context-seen : (g : List Occurrence) (c : C) → (step_of V T c g).0 ≡ (step_of W T c g).0
  context-seen g c = sym (ap (λ (next : C × Reply N). next.0) (step-seen c g))

  pub run_nulls-seen : (ks : List Name) (os : List Occurrence) → Selects passes os → (c : C) → run_nulls V T ks os c ≡ run_nulls W T ks os c
  unfolding run_nulls
  run_nulls-seen [] os p c = refl
  run_nulls-seen (k ∷ ks) os p c =
      let g : List Occurrence = with_key k os in
      let q = selects-key passes k os p in
      ap₂ (λ (xs ys : List Place). xs ++ ys) (group_nulls-seen k g q c)
      (ap₂ (λ (b : Bool) (ys : List Place). cond b [] ys) (loses-seen g q c)
      (run_nulls-seen ks os p (step_of V T c g).0 ∙ ap (λ (d : C). run_nulls W T ks os d) (context-seen g c)))

  pub left-seen : (ks : List Name) (os : List Occurrence) → Selects passes os → (c d : C) → IsLeft V T ks os c d → IsLeft W T ks os c d
  left-seen [] os p c d l = l
  left-seen (k ∷ ks) os p c d (inl e) = inl e
  left-seen (k ∷ ks) os p c d (inr (inl e)) = inr (inl (torn-seen c (with_key k os) d ∙ e))
  left-seen (k ∷ ks) os p c d (inr (inr (inl e))) = inr (inr (inl (e ∙ context-seen (with_key k os) c)))
  left-seen (k ∷ ks) os p c d (inr (inr (inr (e, l)))) =
      let g : List Occurrence = with_key k os in
      inr (inr (inr (
        ap not (sym (loses-seen g (selects-key passes k os p) c)) ∙ e,
        subst (λ (b : C). IsLeft W T ks os b d) (context-seen g c) (left-seen ks os p (step_of V T c g).0 d l),
      )))

  pub left-back : (ks : List Name) (os : List Occurrence) → Selects passes os → (c d : C) → IsLeft W T ks os c d → IsLeft V T ks os c d
  left-back [] os p c d l = l
  left-back (k ∷ ks) os p c d (inl e) = inl e
  left-back (k ∷ ks) os p c d (inr (inl e)) = inr (inl (sym (torn-seen c (with_key k os) d) ∙ e))
  left-back (k ∷ ks) os p c d (inr (inr (inl e))) = inr (inr (inl (e ∙ sym (context-seen (with_key k os) c))))
  left-back (k ∷ ks) os p c d (inr (inr (inr (e, l)))) =
      let g : List Occurrence = with_key k os in
      inr (inr (inr (
        ap not (loses-seen g (selects-key passes k os p) c) ∙ e,
        left-back ks os p (step_of V T c g).0 d (subst (λ (b : C). IsLeft W T ks os b d) (sym (context-seen g c)) l),
      )))
