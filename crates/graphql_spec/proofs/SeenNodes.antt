-- Nodes seen as others: the data, the failures and the standing nulls are the same.
use Rattle.std.proofs.Common.{◌≡◌, ◌++◌, ℕ, zero, suc, Bool, true, cond, List, [], ◌∷◌, IsTrue, refl, ap, ap₂, ◌∙◌, inl, inr}
use Rattle.std.proofs.lemmas.Bool.{cases_Bool, and_parts}
use Rattle.std.specs.List.{flat_map}
use Rattle.std.specs.Str.{bytes_eq}
use Rattle.graphql_spec.specs.Shown.{Name}
use Rattle.graphql_spec.specs.Inputs.{Variables}
use Rattle.graphql_spec.specs.Constants.{Members}
use Rattle.graphql_spec.specs.Positions.{Position}
use Rattle.graphql_spec.specs.Schema.{Schema}
use Rattle.graphql_spec.specs.Types.{TypeRef, named, list_of, required}
use Rattle.graphql_spec.specs.Fields.{typename, is_possible}
use Rattle.graphql_spec.specs.Values.{Value, null, item}
use Rattle.graphql_spec.specs.Errors.{Place, key, index, wrong_shape}
use Rattle.graphql_spec.specs.Selections.{Forest, end, field, under, Occurrence, depth, applies, occurrences, keys, with_key, all_below}
use Rattle.graphql_spec.specs.Resolvers.{Tree, nothing, leaf, items, node, Trees, no_trees, tree, Reply, answered, failed, World, world_of}
use Rattle.graphql_spec.specs.Execution.{whole_list, whole_object, complete, complete_all, finish, type_of, reply_to, reply_of, of_key, grouped, data_of}
use Rattle.graphql_spec.specs.Failures.{Failure, landing, faults, all_faults, reply_faults, key_failures, failures, failures_of, starts_of}
use Rattle.graphql_spec.specs.Nulls.{null_or, standing, all_standing, reply_standing, key_standing, nulls, nulls_of}
use Rattle.graphql_spec.specs.Laws.{In}
use Rattle.graphql_spec.proofs.Grouping.{in_append, in_with_key, in_below}
use Rattle.graphql_spec.specs.SeenNodes.{map_tree, map_trees, map_reply, selects_only, SeenAlike}

-- ## What is selected

abbrev pub Selects : (Name → Bool) → List Occurrence → Type 0
Selects passes os = (o : Occurrence) → In o os → (passes o.head.name.item ≡ true) × (selects_only passes o.below ≡ true)

pub selects-occurrences : (passes : Name → Bool) (p : Name → Name → Bool) (T : Name) (s : Forest) → selects_only passes s ≡ true →
    Selects passes (occurrences p T s)
unfolding occurrences selects_only
selects-occurrences passes p T end e o i = absurd i
selects-occurrences passes p T (field h below rest) e o (inl q) =
    let a = and_parts (passes h.name.item) _ e in let b = and_parts (selects_only passes below) _ a.1 in rw q (a.0, b.0)
selects-occurrences passes p T (field h below rest) e o (inr i) =
    let a = and_parts (passes h.name.item) _ e in let b = and_parts (selects_only passes below) _ a.1 in selects-occurrences passes p T rest b.1 o i
selects-occurrences passes p T (under c below rest) e o i =
    let a = and_parts (selects_only passes below) _ e in elim (in_append o (cond (applies p T c) (occurrences p T below) []) (occurrences p T rest) i) [
      | inl j ↦ elim (cases_Bool (applies p T c)) [ inl q ↦ selects-occurrences passes p T below a.0 o (rw q at j) | inr q ↦ absurd (rw q at j) ]
      | inr j ↦ selects-occurrences passes p T rest a.1 o j
    ]

pub selects-key : (passes : Name → Bool) (k : Name) (os : List Occurrence) → Selects passes os → Selects passes (with_key k os)
selects-key passes k os f o i = f o (in_with_key o k os i).0

pub selects-below : (passes : Name → Bool) (p : Name → Name → Bool) (U : Name) (os : List Occurrence) → Selects passes os →
    Selects passes (occurrences p U (all_below os))
selects-below passes p U os f o i = let r = in_below o p U os i in selects-occurrences passes p U r.0.below (f r.0 r.1).1 o r.2

-- all that is selected passes the test that all pass
pub selects-any : (s : Forest) → selects_only (λ f. true) s ≡ true
unfolding selects_only
selects-any end = refl
selects-any (field h below rest) = rw (selects-any below) (selects-any rest)
selects-any (under c below rest) = rw (selects-any below) (selects-any rest)

-- ## Replies

module _ {M N : Type 0} (s : Schema) (vars : Variables) (h : M → N) (concrete : M → Name) (answer : M → Name → Members → Reply M) (concrete' : N → Name)
    (answer' : N → Name → Members → Reply N) (same_type : (m : M) → concrete m ≡ concrete' (h m)) where
  abbrev V : World M
  V = world_of s vars concrete answer

  abbrev W : World N
  W = world_of s vars concrete' answer'

  module _ (f : Name → M → Value) (g : Name → N → Value) (same : (U : Name) (m : M) → f U m ≡ g U (h m)) where
    mutual
      unfolding complete map_tree world_of

      complete-seen : (t : TypeRef) (a : Tree M) → complete V f t a ≡ complete W g t (map_tree h a)
      complete-seen (named r n) nothing = refl
      complete-seen (list_of r size t) nothing = refl
      complete-seen (named r n) (leaf x) = refl
      complete-seen (list_of r size t) (leaf x) = refl
      complete-seen (named r n) (node m) = rw (same_type m) (ap (λ v. cond (is_possible s (concrete' (h m)) n) v null) (same (concrete' (h m)) m))
      complete-seen (list_of r size t) (node m) = refl
      complete-seen (named r n) (items ts) = refl
      complete-seen (list_of r size t) (items ts) = ap (whole_list (required t)) (complete-seen_all t ts)

      complete-seen_all : (t : TypeRef) (ts : Trees M) → complete_all V f t ts ≡ complete_all W g t (map_trees h ts)
      complete-seen_all t no_trees = refl
      complete-seen_all t (tree a rest) = ap₂ item (complete-seen t a) (complete-seen_all t rest)

    pub finish-seen : (t : TypeRef) (r : Reply M) → finish V f t r ≡ finish W g t (map_reply h r)
    unfolding finish map_reply
    finish-seen t (answered a) = complete-seen t a
    finish-seen t (failed e) = refl

  module _ (f : Place → Place → Name → M → List Failure) (g : Place → Place → Name → N → List Failure)
      (same : (place to : Place) (U : Name) (m : M) → f place to U m ≡ g place to U (h m)) where
    mutual
      unfolding faults map_tree world_of

      faults-seen : (here : Place) (starts : List Position) (above : Place) (t : TypeRef) (a : Tree M) →
          faults V f here starts above t a ≡ faults W g here starts above t (map_tree h a)
      faults-seen here starts above (named r n) nothing = refl
      faults-seen here starts above (list_of r size t) nothing = refl
      faults-seen here starts above (named r n) (leaf x) = refl
      faults-seen here starts above (list_of r size t) (leaf x) = refl
      faults-seen here starts above (named r n) (node m) = rw (same_type m)
          (ap (λ v. cond (is_possible s (concrete' (h m)) n) v (record
          { path = here; starts = starts; error = wrong_shape; rises_to = landing (named r n) here above } ∷ []))
          (same here (landing (named r n) here above) (concrete' (h m)) m))
      faults-seen here starts above (list_of r size t) (node m) = refl
      faults-seen here starts above (named r n) (items ts) = refl
      faults-seen here starts above (list_of r size t) (items ts) = faults-seen_all here 0 starts (landing (list_of r size t) here above) t ts

      faults-seen_all : (here : Place) (i : ℕ) (starts : List Position) (above : Place) (t : TypeRef) (ts : Trees M) →
          all_faults V f here i starts above t ts ≡ all_faults W g here i starts above t (map_trees h ts)
      faults-seen_all here i starts above t no_trees = refl
      faults-seen_all here i starts above t (tree a rest) =
          ap₂ (λ xs ys. xs ++ ys) (faults-seen (here ++ index i ∷ []) starts above t a) (faults-seen_all here (suc i) starts above t rest)

    pub reply_faults-seen : (here : Place) (starts : List Position) (above : Place) (t : TypeRef) (r : Reply M) →
        reply_faults V f here starts above t r ≡ reply_faults W g here starts above t (map_reply h r)
    unfolding reply_faults map_reply
    reply_faults-seen here starts above t (answered a) = faults-seen here starts above t a
    reply_faults-seen here starts above t (failed e) = refl

  module _ (f : Name → M → Value) (g : Name → N → Value) (same : (U : Name) (m : M) → f U m ≡ g U (h m))
      (at : Place → Name → M → List Place) (at' : Place → Name → N → List Place)
      (same_at : (place : Place) (U : Name) (m : M) → at place U m ≡ at' place U (h m)) where
    mutual
      unfolding standing map_tree complete world_of

      standing-seen : (here : Place) (t : TypeRef) (a : Tree M) → standing V f at here t a ≡ standing W g at' here t (map_tree h a)
      standing-seen here (named r n) nothing = refl
      standing-seen here (list_of r size t) nothing = refl
      standing-seen here (named r n) (leaf x) = refl
      standing-seen here (list_of r size t) (leaf x) = refl
      standing-seen here (named r n) (node m) = ap₂ (λ v ps. null_or here (named r n) v ps) (complete-seen f g same (named r n) (node m))
          (ap (λ T. at here T m) (same_type m) ∙ same_at here (concrete' (h m)) m)
      standing-seen here (list_of r size t) (node m) = refl
      standing-seen here (named r n) (items ts) = refl
      standing-seen here (list_of r size t) (items ts) =
          ap₂ (λ v ps. null_or here (list_of r size t) v ps) (complete-seen f g same (list_of r size t) (items ts)) (standing-seen_all here 0 t ts)

      standing-seen_all : (here : Place) (i : ℕ) (t : TypeRef) (ts : Trees M) → all_standing V f at here i t ts ≡ all_standing W g at' here i t (map_trees h ts)
      standing-seen_all here i t no_trees = refl
      standing-seen_all here i t (tree a rest) = ap₂ (λ xs ys. xs ++ ys) (standing-seen (here ++ index i ∷ []) t a) (standing-seen_all here (suc i) t rest)

    pub reply_standing-seen : (here : Place) (t : TypeRef) (r : Reply M) → reply_standing V f at here t r ≡ reply_standing W g at' here t (map_reply h r)
    unfolding reply_standing map_reply
    reply_standing-seen here t (answered a) = standing-seen here t a
    reply_standing-seen here t (failed e) = refl

  -- ## Objects

  module _ (passes : Name → Bool) (same_reply : (m : M) (f : Name) (args : Members) → IsTrue (passes f) → map_reply h (answer m f args) ≡ answer' (h m) f args)
    where
      reply-seen : (T : Name) (m : M) (os : List Occurrence) → Selects passes os → map_reply h (reply_of V T m os) ≡ reply_of W T (h m) os
      unfolding reply_of reply_to map_reply map_tree world_of
      reply-seen T m [] p = refl
      reply-seen T m (o ∷ os) p =
          elim (cases_Bool (bytes_eq o.head.name.item typename)) [ inl q ↦ rw q refl | inr q ↦ rw q (same_reply m o.head.name.item _ (p o (inl refl)).0) ]

      type-seen : (T : Name) (os : List Occurrence) → type_of V T os ≡ type_of W T os
      unfolding type_of world_of
      type-seen T [] = refl
      type-seen T (o ∷ os) = refl

      key-seen : (f : Name → M → List Occurrence → Value) (g : Name → N → List Occurrence → Value) (T : Name) (m : M) (os : List Occurrence) →
          Selects passes os →
          ((U : Name) (n : M) → f U n (occurrences V.possible U (all_below os)) ≡ g U (h n) (occurrences W.possible U (all_below os))) →
          of_key V f T m os ≡ of_key W g T (h m) os
      unfolding of_key
      key-seen f g T m os p same = finish-seen (λ U n. f U n (occurrences V.possible U (all_below os)))
          (λ U n. g U n (occurrences W.possible U (all_below os))) same (type_of V T os) (reply_of V T m os)
          ∙ ap₂ (λ t r. finish W (λ U n. g U n (occurrences W.possible U (all_below os))) t r) (type-seen T os) (reply-seen T m os p)

      pub grouped-seen : (d : ℕ) (T : Name) (m : M) (os : List Occurrence) → Selects passes os → grouped V d T m os ≡ grouped W d T (h m) os
      unfolding grouped world_of
      grouped-seen zero T m os p = refl
      grouped-seen (suc d) T m os p = ap₂ (whole_object (keys os)) (λ i k. type-seen T (with_key k os) i)
          (λ i k. key-seen (grouped V d) (grouped W d) T m (with_key k os) (selects-key passes k os p)
          (λ U n. grouped-seen d U n (occurrences V.possible U (all_below (with_key k os)))
          (selects-below passes V.possible U (with_key k os) (selects-key passes k os p))) i)

      pub failures-seen : (d : ℕ) (here above : Place) (T : Name) (m : M) (os : List Occurrence) → Selects passes os →
          failures V d here above T m os ≡ failures W d here above T (h m) os
      unfolding failures key_failures world_of
      failures-seen zero here above T m os p = refl
      failures-seen (suc d) here above T m os p = ap (λ (F : Name → List Failure). flat_map F (keys os)) (λ i k.
          (reply_faults-seen (λ place to U n. failures V d place to U n (occurrences V.possible U (all_below (with_key k os))))
          (λ place to U n. failures W d place to U n (occurrences W.possible U (all_below (with_key k os))))
          (λ place to U n. failures-seen d place to U n (occurrences V.possible U (all_below (with_key k os)))
          (selects-below passes V.possible U (with_key k os) (selects-key passes k os p)))
          (here ++ key k ∷ []) (starts_of (with_key k os)) above (type_of V T (with_key k os)) (reply_of V T m (with_key k os))
          ∙ ap₂ (λ t r. reply_faults W (λ place to U n. failures W d place to U n (occurrences W.possible U (all_below (with_key k os)))) (here ++ key k ∷ [])
          (starts_of (with_key k os)) above t r) (type-seen T (with_key k os)) (reply-seen T m (with_key k os) (selects-key passes k os p))) i)

      pub nulls-seen : (d : ℕ) (here : Place) (T : Name) (m : M) (os : List Occurrence) → Selects passes os → nulls V d here T m os ≡ nulls W d here T (h m) os
      unfolding nulls key_standing world_of
      nulls-seen zero here T m os p = refl
      nulls-seen (suc d) here T m os p = ap (λ (F : Name → List Place). flat_map F (keys os)) (λ i k.
          (reply_standing-seen (λ U n. grouped V d U n (occurrences V.possible U (all_below (with_key k os))))
          (λ U n. grouped W d U n (occurrences W.possible U (all_below (with_key k os))))
          (λ U n. grouped-seen d U n (occurrences V.possible U (all_below (with_key k os)))
          (selects-below passes V.possible U (with_key k os) (selects-key passes k os p)))
          (λ place U n. nulls V d place U n (occurrences V.possible U (all_below (with_key k os))))
          (λ place U n. nulls W d place U n (occurrences W.possible U (all_below (with_key k os))))
          (λ place U n. nulls-seen d place U n (occurrences V.possible U (all_below (with_key k os)))
          (selects-below passes V.possible U (with_key k os) (selects-key passes k os p)))
          (here ++ key k ∷ []) (type_of V T (with_key k os)) (reply_of V T m (with_key k os))
          ∙ ap₂ (λ t r. reply_standing W (λ U n. grouped W d U n (occurrences W.possible U (all_below (with_key k os))))
          (λ place U n. nulls W d place U n (occurrences W.possible U (all_below (with_key k os)))) (here ++ key k ∷ []) t r) (type-seen T (with_key k os))
          (reply-seen T m (with_key k os) (selects-key passes k os p))) i)

pub seen_alike : {M N : Type 0} → SeenAlike M N
unfolding data_of failures_of nulls_of world_of
seen_alike s vars h passes concrete answer concrete' answer' same_type same_reply T m selected e =
    let p = selects-occurrences passes (is_possible s) T selected e in record {
      data_is = grouped-seen s vars h concrete answer concrete' answer' same_type passes same_reply (depth selected) T m
          (occurrences (is_possible s) T selected) p;
      failures_are = λ here above. failures-seen s vars h concrete answer concrete' answer' same_type passes same_reply (depth selected) here above T m
          (occurrences (is_possible s) T selected) p;
      nulls_are = λ here. nulls-seen s vars h concrete answer concrete' answer' same_type passes same_reply (depth selected) here T m
          (occurrences (is_possible s) T selected) p;
    }
