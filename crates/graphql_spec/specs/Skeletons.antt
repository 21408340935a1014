-- An answer without the objects of its nodes (CompleteValue, 6.4.3): what is left has a hole for each of them.
use Rattle.std.specs.Prelude.{ℕ, suc, Bool, List, [], ◌∷◌, ◌++◌, map, cond}
use Rattle.graphql_spec.specs.Shown.{Shown}
use Rattle.graphql_spec.specs.Positions.{Position}
use Rattle.graphql_spec.specs.Values.{Value, Values, null, scalar, no_items, item}
use Rattle.graphql_spec.specs.Types.{TypeRef, named, list_of, required}
use Rattle.graphql_spec.specs.Errors.{Place, index, Listed, null_at_non_null, wrong_shape}
use Rattle.graphql_spec.specs.Resolvers.{Error, World, Tree, nothing, leaf, items, node, Trees, no_trees, tree, Reply, answered, failed}
use Rattle.graphql_spec.specs.Execution.{whole_list}
use Rattle.graphql_spec.specs.Failures.{landing, reply_faults}

-- null, a scalar, a list (with whether its items are non-null) or a hole
mutual
  pub data Skeleton : Type 0 where
    absent : Skeleton
    filled : Shown → Skeleton
    several : Bool → Skeletons → Skeleton
    hole : Skeleton

  -- the items of a list, in order
  pub data Skeletons : Type 0 where
    no_skeletons : Skeletons
    skeleton : Skeleton → Skeletons → Skeletons

-- a node of an answer: its place, where a null there lands, and the node
pub record Stop (N : Type 0) : Type 0 where
  pub place : Place
  pub lands : Place
  pub node : N

-- something at a place of an answer
pub record Spot (A : Type 0) : Type 0 where
  pub place : Place
  pub what : A

module _ {N : Type 0} (W : World N) where
  unfoldable mutual
    -- a resolved tree at a type: a hole for each node whose object type is possible there (6.4.3)
    pub skeleton_of : TypeRef → Tree N → Skeleton
    skeleton_of (named r n) (leaf x) = cond (W.accepts n x) (filled x) absent
    skeleton_of (named r n) (node m) = cond (W.possible (W.concrete m) n) hole absent
    skeleton_of (list_of r size t) (items ts) = several (required t) (skeletons_of t ts)
    skeleton_of t other = absent

    -- item by item
    pub skeletons_of : TypeRef → Trees N → Skeletons
    skeletons_of t no_trees = no_skeletons
    skeletons_of t (tree a rest) = skeleton (skeleton_of t a) (skeletons_of t rest)

  unfoldable mutual
    -- the nodes for which it has holes, in order
    pub stops : Place → Place → TypeRef → Tree N → List (Stop N)
    stops here above (named r n) (node m) =
        cond (W.possible (W.concrete m) n) (record { place = here; lands = landing (named r n) here above; node = m } ∷ []) []
    stops here above (list_of r size t) (items ts) = all_stops here 0 (landing (list_of r size t) here above) t ts
    stops here above t other = []

    -- item by item, counted from i
    pub all_stops : Place → ℕ → Place → TypeRef → Trees N → List (Stop N)
    all_stops here i above t no_trees = []
    all_stops here i above t (tree a rest) = stops (here ++ index i ∷ []) above t a ++ all_stops here (suc i) above t rest

  unfoldable mutual
    -- these nodes, each at its place in the answer (7.1.2)
    pub node_spots : Place → TypeRef → Tree N → List (Spot N)
    node_spots here (named r n) (node m) = cond (W.possible (W.concrete m) n) (record { place = here; what = m } ∷ []) []
    node_spots here (list_of r size t) (items ts) = all_node_spots here 0 t ts
    node_spots here t other = []

    -- item by item, counted from i
    pub all_node_spots : Place → ℕ → TypeRef → Trees N → List (Spot N)
    all_node_spots here i t no_trees = []
    all_node_spots here i t (tree a rest) = node_spots (here ++ index i ∷ []) t a ++ all_node_spots here (suc i) t rest

  unfoldable mutual
    -- the errors of the failures that are not its nodes', each at its place in the answer (6.4.4, 7.1.2)
    pub error_spots : Place → TypeRef → Tree N → List (Spot Error)
    error_spots here (named r n) nothing = cond r (record { place = here; what = null_at_non_null } ∷ []) []
    error_spots here (list_of r size t) nothing = cond r (record { place = here; what = null_at_non_null } ∷ []) []
    error_spots here (named r n) (leaf x) = cond (W.accepts n x) [] (record { place = here; what = wrong_shape } ∷ [])
    error_spots here (named r n) (node m) = cond (W.possible (W.concrete m) n) [] (record { place = here; what = wrong_shape } ∷ [])
    error_spots here (list_of r size t) (items ts) = all_error_spots here 0 t ts
    error_spots here t other = record { place = here; what = wrong_shape } ∷ []

    -- item by item, counted from i
    pub all_error_spots : Place → ℕ → TypeRef → Trees N → List (Spot Error)
    all_error_spots here i t no_trees = []
    all_error_spots here i t (tree a rest) = error_spots (here ++ index i ∷ []) t a ++ all_error_spots here (suc i) t rest

  -- the same of a reply (6.4.2); a field error leaves null
  unfoldable pub reply_skeleton : TypeRef → Reply N → Skeleton
  reply_skeleton t (answered a) = skeleton_of t a
  reply_skeleton t (failed e) = absent

  unfoldable pub reply_stops : Place → Place → TypeRef → Reply N → List (Stop N)
  reply_stops here above t (answered a) = stops here above t a
  reply_stops here above t (failed e) = []

  unfoldable pub reply_node_spots : Place → TypeRef → Reply N → List (Spot N)
  reply_node_spots here t (answered a) = node_spots here t a
  reply_node_spots here t (failed e) = []

  unfoldable pub reply_error_spots : Place → TypeRef → Reply N → List (Spot Error)
  reply_error_spots here t (answered a) = error_spots here t a
  reply_error_spots here t (failed e) = record { place = here; what = e } ∷ []

  -- what is listed, for a field that starts there, of the failures that are not its nodes' (6.4.4)
  unfoldable pub listed_apart : (Place → Place) → Place → Position → TypeRef → Reply N → List Listed
  listed_apart tell here start t r =
      map (λ f. record { path = tell f.path; start = start; error = f.error }) (reply_faults W (λ place to T m. []) here (start ∷ []) [] t r)

-- a value, and those that are not used yet
pub record Filled : Type 0 where
  pub value : Value
  pub left : List Value

pub record AllFilled : Type 0 where
  pub values : Values
  pub left : List Value

-- a hole takes the first value
unfoldable pub first_of : List Value → Filled
first_of [] = record { value = null; left = [] }
first_of (v ∷ vs) = record { value = v; left = vs }

unfoldable mutual
  -- a skeleton whose holes take these values in order; a list is null where an item is null that may not be (6.4.4)
  pub fill : Skeleton → List Value → Filled
  fill absent vs = record { value = null; left = vs }
  fill (filled x) vs = record { value = scalar x; left = vs }
  fill (several r ss) vs = record { value = whole_list r (fill_all ss vs).values; left = (fill_all ss vs).left }
  fill hole vs = first_of vs

  pub fill_all : Skeletons → List Value → AllFilled
  fill_all no_skeletons vs = record { values = no_items; left = vs }
  fill_all (skeleton s ss) vs = record { values = item (fill s vs).value (fill_all ss (fill s vs).left).values; left = (fill_all ss (fill s vs).left).left }

-- errors as they are listed of one start; `tell` says how a place is listed
unfoldable pub listed_spots : (Place → Place) → Position → List (Spot Error) → List Listed
listed_spots tell start xs = map (λ x. record { path = tell x.place; start = start; error = x.what }) xs
