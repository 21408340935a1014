-- What a field selects agrees, for the nodes of its reply (5.3.2, 6.3).
use Rattle.std.proofs.Common.{◌≡◌, ℕ, zero, suc, true, List, [], ◌∷◌, ◌++◌, refl, inl, inr}
use Rattle.std.proofs.lemmas.Bool.{cases_Bool}
use Rattle.graphql_spec.specs.Shown.{Name}
use Rattle.graphql_spec.specs.Errors.{Place, index}
use Rattle.graphql_spec.specs.Types.{TypeRef, named, list_of, innermost}
use Rattle.graphql_spec.specs.Selections.{Occurrence, occurrences}
use Rattle.graphql_spec.specs.Resolvers.{World, Tree, nothing, leaf, items, node, Trees, no_trees, tree, Reply, answered, failed}
use Rattle.graphql_spec.specs.Execution.{type_of, reply_of}
use Rattle.graphql_spec.specs.Laws.{In, Agree}
use Rattle.graphql_spec.proofs.Grouping.{in_append, in_first}
use Rattle.graphql_spec.specs.Skeletons.{Spot, node_spots, all_node_spots, reply_node_spots}
use Rattle.graphql_spec.specs.Walks.{AgreesBelow}

module _ {N : Type 0} (W : World N) where
  mutual
    unfolding node_spots innermost

    -- the object type of each node that is asked is possible at the type inside
    node-possible : (here : Place) (t : TypeRef) (a : Tree N) (x : Spot N) → In x (node_spots W here t a) → W.possible (W.concrete x.what) (innermost t) ≡ true
    node-possible here (named r k) nothing x i = absurd i
    node-possible here (list_of r size t) nothing x i = absurd i
    node-possible here (named r k) (leaf y) x i = absurd i
    node-possible here (list_of r size t) (leaf y) x i = absurd i
    node-possible here (named r k) (node m) x i = elim (cases_Bool (W.possible (W.concrete m) k)) [
      | inl e ↦ elim (rw e at i) [ inl g ↦ rw g e | inr g ↦ absurd g ]
      | inr e ↦ absurd (rw e at i)
    ]
    node-possible here (list_of r size t) (node m) x i = absurd i
    node-possible here (named r k) (items ts) x i = absurd i
    node-possible here (list_of r size t) (items ts) x i = all-possible here 0 t ts x i

    all-possible : (here : Place) (n : ℕ) (t : TypeRef) (ts : Trees N) (x : Spot N) → In x (all_node_spots W here n t ts) →
        W.possible (W.concrete x.what) (innermost t) ≡ true
    all-possible here n t no_trees x i = absurd i
    all-possible here n t (tree a rest) x i =
        elim (in_append x (node_spots W (here ++ index n ∷ []) t a) (all_node_spots W here (suc n) t rest) i)
        [ inl j ↦ node-possible (here ++ index n ∷ []) t a x j | inr j ↦ all-possible here (suc n) t rest x j ]

  -- so is that of each node of a reply
  pub reply-possible : (here : Place) (t : TypeRef) (r : Reply N) (x : Spot N) → In x (reply_node_spots W here t r) →
      W.possible (W.concrete x.what) (innermost t) ≡ true
  unfolding reply_node_spots
  reply-possible here t (answered a) x i = node-possible here t a x i
  reply-possible here t (failed e) x i = absurd i

  pub agree-front : (d : ℕ) (T : Name) (os ps : List Occurrence) → Agree W d T (os ++ ps) → Agree W d T os
  agree-front zero T os ps a = tt
  agree-front (suc d) T os ps a = λ x y i j. a x y (in_first x os ps i) (in_first y os ps j)

  pub agrees-below : AgreesBelow W
  unfolding type_of
  agrees-below T m os agree o i here x inside d =
      agree-front d (W.concrete x.what) (occurrences W.possible (W.concrete x.what) o.below) (occurrences W.possible (W.concrete x.what) o.below)
      ((agree (suc d) o o i i refl).2 (W.concrete x.what) (reply-possible here (type_of W T (o ∷ [])) (reply_of W T m (o ∷ [])) x inside))
