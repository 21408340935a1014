-- Nodes seen as others enter as many fields.
use Rattle.std.proofs.Common.{◌≡◌, ◌+◌, ◌++◌, ℕ, zero, suc, Bool, true, false, cond, List, [], ◌∷◌, IsTrue, length, refl, ap, ap₂, ◌∙◌, inl, inr, arith}
use Rattle.std.proofs.lemmas.Bool.{cases_Bool}
use Rattle.std.proofs.lemmas.List.Sums.{sum_by-append}
use Rattle.std.specs.List.{sum_by}
use Rattle.std.specs.Str.{bytes_eq}
use Rattle.graphql_spec.specs.Constants.{Members}
use Rattle.graphql_spec.specs.Errors.{Place, index}
use Rattle.graphql_spec.specs.Execution.{reply_of, reply_to, type_of}
use Rattle.graphql_spec.specs.Fields.{is_possible, typename}
use Rattle.graphql_spec.specs.Inputs.{Variables}
use Rattle.graphql_spec.specs.Resolvers.{Tree, nothing, leaf, items, node, Trees, no_trees, tree, Reply, answered, failed, World, world_of}
use Rattle.graphql_spec.specs.Schema.{Schema}
use Rattle.graphql_spec.specs.Selections.{Forest, Occurrence, all_below, depth, keys, occurrences, with_key}
use Rattle.graphql_spec.specs.SeenNodes.{map_reply, map_tree, map_trees, selects_only}
use Rattle.graphql_spec.specs.Shown.{Name}
use Rattle.graphql_spec.specs.Skeletons.{Spot, all_node_spots, node_spots, reply_node_spots}
use Rattle.graphql_spec.specs.Types.{TypeRef, named, list_of}
use Rattle.graphql_spec.proofs.SeenNodes.{Selects, selects-below, selects-key, selects-occurrences}
use Rattle.juniper_walk.specs.Entered.{entered, entered_by, entered_nodes, under_key}

module _ {M N : Type 0} (s : Schema) (vars : Variables) (h : M → N) (concrete : M → Name) (answer : M → Name → Members → Reply M) (concrete' : N → Name)
    (answer' : N → Name → Members → Reply N) (same_type : (m : M) → concrete m ≡ concrete' (h m)) where
  abbrev V : World M
  V = world_of s vars concrete answer

  abbrev W : World N
  W = world_of s vars concrete' answer'

  -- ## Replies

  module _ (f : M → ℕ) (g : N → ℕ) (same : (m : M) → f m ≡ g (h m)) where
    one-seen : (b : Bool) (p : Place) (m : M) → sum_by (λ (x : Spot M). f x.what) (cond b (record { place = p; what = m } ∷ []) [])
        ≡ sum_by (λ (x : Spot N). g x.what) (cond b (record { place = p; what = h m } ∷ []) [])
    one-seen true p m = omega (arith, same m)
    one-seen false p m = refl

    mutual
      unfolding node_spots map_tree world_of

      spots-seen : (p : Place) (t : TypeRef) (a : Tree M) →
          sum_by (λ (x : Spot M). f x.what) (node_spots V p t a) ≡ sum_by (λ (x : Spot N). g x.what) (node_spots W p t (map_tree h a))
      spots-seen p (named r n) nothing = refl
      spots-seen p (list_of r size t) nothing = refl
      spots-seen p (named r n) (leaf x) = refl
      spots-seen p (list_of r size t) (leaf x) = refl
      spots-seen p (named r n) (node m) = rw (same_type m) (one-seen (is_possible s (concrete' (h m)) n) p m)
      spots-seen p (list_of r size t) (node m) = refl
      spots-seen p (named r n) (items ts) = refl
      spots-seen p (list_of r size t) (items ts) = all-seen p 0 t ts

      all-seen : (p : Place) (i : ℕ) (t : TypeRef) (ts : Trees M) →
          sum_by (λ (x : Spot M). f x.what) (all_node_spots V p i t ts) ≡ sum_by (λ (x : Spot N). g x.what) (all_node_spots W p i t (map_trees h ts))
      all-seen p i t no_trees = refl
      all-seen p i t (tree a rest) =
          let at : Place = p ++ index i ∷ [] in
          let here = spots-seen at t a in
          let there = all-seen p (suc i) t rest in
          let one = sum_by-append (λ (x : Spot M). f x.what) (node_spots V at t a) (all_node_spots V p (suc i) t rest) in
          let two = sum_by-append (λ (x : Spot N). g x.what) (node_spots W at t (map_tree h a)) (all_node_spots W p (suc i) t (map_trees h rest)) in
          omega (arith, here, there, one, two)

    replies-seen : (p : Place) (t : TypeRef) (r : Reply M) →
        sum_by (λ (x : Spot M). f x.what) (reply_node_spots V p t r) ≡ sum_by (λ (x : Spot N). g x.what) (reply_node_spots W p t (map_reply h r))
    unfolding reply_node_spots map_reply
    replies-seen p t (answered a) = spots-seen p t a
    replies-seen p t (failed e) = refl

  -- ## Objects

  module _ (passes : Name → Bool) (same_reply : (m : M) (f : Name) (args : Members) → IsTrue (passes f) → map_reply h (answer m f args) ≡ answer' (h m) f args)
    where
      reply-seen : (T : Name) (m : M) (os : List Occurrence) → Selects passes os → map_reply h (reply_of V T m os) ≡ reply_of W T (h m) os
      unfolding reply_of reply_to map_reply map_tree world_of
      reply-seen T m [] p = refl
      reply-seen T m (o ∷ os) p =
          elim (cases_Bool (bytes_eq o.head.name.item typename)) [ inl q ↦ rw q refl | inr q ↦ rw q (same_reply m o.head.name.item _ (p o (inl refl)).0) ]

      type-seen : (T : Name) (os : List Occurrence) → type_of V T os ≡ type_of W T os
      unfolding type_of world_of
      type-seen T [] = refl
      type-seen T (o ∷ os) = refl

      under-seen : (f : Name → M → List Occurrence → ℕ) (g : Name → N → List Occurrence → ℕ) (T : Name) (m : M) (os : List Occurrence) → Selects passes os →
          ((U : Name) (n : M) → f U n (occurrences (is_possible s) U (all_below os)) ≡ g U (h n) (occurrences (is_possible s) U (all_below os))) →
          under_key V f T m os ≡ under_key W g T (h m) os
      unfolding under_key world_of
      under-seen f g T m os p same =
          replies-seen (λ n. f (concrete n) n (occurrences (is_possible s) (concrete n) (all_below os)))
          (λ n. g (concrete' n) n (occurrences (is_possible s) (concrete' n) (all_below os)))
          (λ n. rw (same_type n) (same (concrete' (h n)) n)) [] (type_of V T os) (reply_of V T m os)
          ∙ ap₂ (λ t r. sum_by (λ (x : Spot N). g (concrete' x.what) x.what (occurrences (is_possible s) (concrete' x.what) (all_below os)))
          (reply_node_spots W [] t r)) (type-seen T os) (reply-seen T m os p)

      pub entered_by-seen : (d : ℕ) (T : Name) (m : M) (os : List Occurrence) → Selects passes os → entered_by V d T m os ≡ entered_by W d T (h m) os
      unfolding entered_by
      entered_by-seen zero T m os p = refl
      entered_by-seen (suc d) T m os p = ap (λ (F : Name → ℕ). length (keys os) + sum_by F (keys os)) (λ i k.
          under-seen (entered_by V d) (entered_by W d) T m (with_key k os) (selects-key passes k os p)
          (λ U n. entered_by-seen d U n (occurrences (is_possible s) U (all_below (with_key k os)))
          (selects-below passes (is_possible s) U (with_key k os) (selects-key passes k os p))) i)

      -- a node, and all below it
      pub entered-seen : (T : Name) (m : M) (selected : Forest) → selects_only passes selected ≡ true → entered V T m selected ≡ entered W T (h m) selected
      unfolding entered world_of
      entered-seen T m selected only =
          entered_by-seen (suc (depth selected)) T m (occurrences (is_possible s) T selected) (selects-occurrences passes (is_possible s) T selected only)

      -- the nodes of a reply
      pub nodes-seen : (p : Place) (t : TypeRef) (r : Reply M) (selected : Forest) → selects_only passes selected ≡ true →
          entered_nodes V selected (reply_node_spots V p t r) ≡ entered_nodes W selected (reply_node_spots W p t (map_reply h r))
      unfolding entered_nodes world_of
      nodes-seen p t r selected only =
          replies-seen (λ n. entered V (concrete n) n selected) (λ n. entered W (concrete' n) n selected)
          (λ n. rw (same_type n) (entered-seen (concrete' (h n)) n selected only)) p t r

pub entered_alike : {M N : Type 0} (s : Schema) (vars : Variables) (h : M → N) (passes : Name → Bool) (concrete : M → Name)
    (answer : M → Name → Members → Reply M) (concrete' : N → Name) (answer' : N → Name → Members → Reply N) →
    ((m : M) → concrete m ≡ concrete' (h m)) →
    ((m : M) (f : Name) (args : Members) → IsTrue (passes f) → map_reply h (answer m f args) ≡ answer' (h m) f args) →
    (T : Name) (m : M) (selected : Forest) → selects_only passes selected ≡ true →
    entered (world_of s vars concrete answer) T m selected ≡ entered (world_of s vars concrete' answer') T (h m) selected
entered_alike s vars h passes concrete answer concrete' answer' same_type same_reply T m selected only =
    entered-seen s vars h concrete answer concrete' answer' same_type passes same_reply T m selected only
