-- The places of a reply's nodes and of its errors are those of its stops and of what fails of it.
use Rattle.std.proofs.Common.{◌≡◌, ◌≤◌, ℕ, suc, Bool, true, false, cond, List, [], ◌∷◌, ◌++◌, map, refl, sym, ap₂, ◌∙◌, subst, inl, inr}
use Rattle.std.proofs.lemmas.Bool.{cases_Bool}
use Rattle.std.proofs.lemmas.List.{map-append}
use Rattle.graphql_spec.specs.Shown.{Name}
use Rattle.graphql_spec.specs.Positions.{Position}
use Rattle.graphql_spec.specs.Values.{Value}
use Rattle.graphql_spec.specs.Types.{TypeRef, named, list_of, required}
use Rattle.graphql_spec.specs.Errors.{Place, index, Listed, null_at_non_null, wrong_shape}
use Rattle.graphql_spec.specs.Resolvers.{Error, World, Tree, nothing, leaf, items, node, Trees, no_trees, tree, Reply, answered, failed}
use Rattle.graphql_spec.specs.Selections.{Forest, depth, occurrences}
use Rattle.graphql_spec.specs.Execution.{grouped}
use Rattle.graphql_spec.specs.Failures.{Failure, failures, landing, faults, all_faults, reply_faults}
use Rattle.graphql_spec.specs.Nulls.{nulls}
use Rattle.graphql_spec.specs.Skeletons.{Spot, Stop, stops, all_stops, node_spots, all_node_spots, reply_stops, reply_node_spots, error_spots}
use Rattle.graphql_spec.specs.Skeletons.{all_error_spots, reply_error_spots, listed_apart, listed_spots}
use Rattle.graphql_spec.specs.CompletionLaws.{AreObjectsOf}
use Rattle.graphql_spec.specs.Walks.{AreWalkedAt}
use Rattle.graphql_spec.proofs.Deepening.{lifted}

-- a stop without the place where its null lands
abbrev pub spot_of : {N : Type 0} → Stop N → Spot N
spot_of x = record { place = x.place; what = x.node }

module _ {N : Type 0} (W : World N) where
  mutual
    unfolding stops node_spots

    spots-tree : (here above : Place) (t : TypeRef) (a : Tree N) → map spot_of (stops W here above t a) ≡ node_spots W here t a
    spots-tree here above (named r n) nothing = refl
    spots-tree here above (list_of r size t) nothing = refl
    spots-tree here above (named r n) (leaf x) = refl
    spots-tree here above (list_of r size t) (leaf x) = refl
    spots-tree here above (named r n) (node m) = elim (cases_Bool (W.possible (W.concrete m) n)) [ inl p ↦ rw p refl | inr p ↦ rw p refl ]
    spots-tree here above (list_of r size t) (node m) = refl
    spots-tree here above (named r n) (items ts) = refl
    spots-tree here above (list_of r size t) (items ts) = spots-trees here 0 (landing (list_of r size t) here above) t ts

    spots-trees : (here : Place) (i : ℕ) (above : Place) (t : TypeRef) (ts : Trees N) →
        map spot_of (all_stops W here i above t ts) ≡ all_node_spots W here i t ts
    spots-trees here i above t no_trees = refl
    spots-trees here i above t (tree a rest) =
        map-append spot_of (stops W (here ++ index i ∷ []) above t a) (all_stops W here (suc i) above t rest)
        ∙ ap₂ (λ xs ys. xs ++ ys) (spots-tree (here ++ index i ∷ []) above t a) (spots-trees here (suc i) above t rest)

  pub spots-reply : (here above : Place) (t : TypeRef) (r : Reply N) → map spot_of (reply_stops W here above t r) ≡ reply_node_spots W here t r
  unfolding reply_stops reply_node_spots
  spots-reply here above t (answered a) = spots-tree here above t a
  spots-reply here above t (failed x) = refl

module _ (tell : Place → Place) {N : Type 0} (W : World N) (d : ℕ) (s : Forest) (deep : depth s ≤ d) where
  abbrev Objects : List (Stop N) → List Value → List (List Listed) → Type 0
  Objects = AreObjectsOf tell W (λ T n. grouped W d T n (occurrences W.possible T s))
      (λ place lands T n. failures W d place lands T n (occurrences W.possible T s)) (λ place T n. nulls W d place T n (occurrences W.possible T s))

  abbrev Walked : List (Spot N) → List Value → List (List Listed) → Type 0
  Walked = AreWalkedAt tell W s

  objects-are : (xs : List (Stop N)) (vs : List Value) (ess : List (List Listed)) → Walked (map spot_of xs) vs ess → Objects xs vs ess
  objects-are [] [] [] w = tt
  objects-are [] [] (es ∷ ess) w = absurd w
  objects-are [] (v ∷ vs) [] w = absurd w
  objects-are [] (v ∷ vs) (es ∷ ess) w = absurd w
  objects-are (x ∷ xs) [] [] w = absurd w
  objects-are (x ∷ xs) [] (es ∷ ess) w = absurd w
  objects-are (x ∷ xs) (v ∷ vs) [] w = absurd w
  objects-are (x ∷ xs) (v ∷ vs) (es ∷ ess) (one, w) =
      let a = lifted tell W d s deep x.place x.lands (W.concrete x.node) x.node v es (one x.lands) in
      (record { value = a.value; errors = a.errors }, objects-are xs vs ess w)

  -- nodes that were walked, each at its place, are a reply's objects
  pub reply-objects : (here above : Place) (t : TypeRef) (r : Reply N) (vs : List Value) (ess : List (List Listed)) →
      Walked (reply_node_spots W here t r) vs ess → Objects (reply_stops W here above t r) vs ess
  reply-objects here above t r vs ess w =
      objects-are (reply_stops W here above t r) vs ess (subst (λ z. Walked z vs ess) (sym (spots-reply W here above t r)) w)

-- what is listed of a reply apart from its nodes: its errors, each at its place
module _ (tell : Place → Place) {N : Type 0} (W : World N) (start : Position) where
  abbrev listed : Failure → Listed
  listed f = record { path = tell f.path; start = start; error = f.error }

  abbrev seen : Spot Error → Listed
  seen x = record { path = tell x.place; start = start; error = x.what }

  abbrev without_nodes : Place → Place → Name → N → List Failure
  without_nodes place to T m = []

  listed-where : (q : Bool) (here to : Place) (e : Error) →
      map listed (cond q (record { path = here; starts = start ∷ []; error = e; rises_to = to } ∷ []) [])
      ≡ map seen (cond q (record { place = here; what = e } ∷ []) [])
  listed-where true here to e = refl
  listed-where false here to e = refl

  listed-but : (q : Bool) (here to : Place) (e : Error) →
      map listed (cond q [] (record { path = here; starts = start ∷ []; error = e; rises_to = to } ∷ []))
      ≡ map seen (cond q [] (record { place = here; what = e } ∷ []))
  listed-but true here to e = refl
  listed-but false here to e = refl

  mutual
    unfolding error_spots faults required

    listed-tree : (here above : Place) (t : TypeRef) (a : Tree N) →
        map listed (faults W without_nodes here (start ∷ []) above t a) ≡ map seen (error_spots W here t a)
    listed-tree here above (named r n) nothing = listed-where r here above null_at_non_null
    listed-tree here above (list_of r size t) nothing = listed-where r here above null_at_non_null
    listed-tree here above (named r n) (leaf x) = listed-but (W.accepts n x) here (landing (named r n) here above) wrong_shape
    listed-tree here above (list_of r size t) (leaf x) = refl
    listed-tree here above (named r n) (node m) = listed-but (W.possible (W.concrete m) n) here (landing (named r n) here above) wrong_shape
    listed-tree here above (list_of r size t) (node m) = refl
    listed-tree here above (named r n) (items ts) = refl
    listed-tree here above (list_of r size t) (items ts) = listed-trees here 0 (landing (list_of r size t) here above) t ts

    listed-trees : (here : Place) (i : ℕ) (above : Place) (t : TypeRef) (ts : Trees N) →
        map listed (all_faults W without_nodes here i (start ∷ []) above t ts) ≡ map seen (all_error_spots W here i t ts)
    listed-trees here i above t no_trees = refl
    listed-trees here i above t (tree a rest) =
        map-append listed (faults W without_nodes (here ++ index i ∷ []) (start ∷ []) above t a)
        (all_faults W without_nodes here (suc i) (start ∷ []) above t rest)
        ∙ (ap₂ (λ xs ys. xs ++ ys) (listed-tree (here ++ index i ∷ []) above t a) (listed-trees here (suc i) above t rest)
        ∙ sym (map-append seen (error_spots W (here ++ index i ∷ []) t a) (all_error_spots W here (suc i) t rest)))

  pub listed-reply : (here : Place) (t : TypeRef) (r : Reply N) →
      listed_apart W tell here start t r ≡ listed_spots tell start (reply_error_spots W here t r)
  unfolding listed_apart reply_error_spots reply_faults listed_spots
  listed-reply here t (answered a) = listed-tree here [] t a
  listed-reply here t (failed x) = refl
