-- A field's reply that is completed by the objects of its nodes (6.4.3): for one occurrence, and for all of a response key.
use Rattle.std.specs.Prelude.{◌≡◌, List, [], ◌∷◌, ◌++◌, map}
use Rattle.graphql_spec.specs.Positions.{Position}
use Rattle.graphql_spec.specs.Values.{Value, is_null}
use Rattle.graphql_spec.specs.Types.{TypeRef}
use Rattle.graphql_spec.specs.Errors.{Place, Listed}
use Rattle.graphql_spec.specs.Selections.{Forest, Occurrence, all_below}
use Rattle.graphql_spec.specs.Resolvers.{Reply, World}
use Rattle.graphql_spec.specs.Execution.{data_of}
use Rattle.graphql_spec.specs.Failures.{failures_of}
use Rattle.graphql_spec.specs.Nulls.{nulls_of}
use Rattle.graphql_spec.specs.Walk.{Met}
use Rattle.graphql_spec.specs.Skeletons.{Spot, reply_skeleton, reply_node_spots, reply_stops, reply_error_spots, listed_apart, listed_spots, fill}
use Rattle.graphql_spec.specs.CompletionLaws.{all_listed, AreObjectsOf}
use Rattle.graphql_spec.specs.Walks.{AreWalkedAt}
use Rattle.graphql_spec.specs.GroupLaws.{for_picked, first_start, IsCompleted, GroupCompleted}

-- one occurrence: the nodes of the reply were walked for what it selects, each at its place, and their objects filled the holes
-- (6.4.3)
abbrev pub OccurrenceByNodes : {N : Type 0} → World N → Type 0
OccurrenceByNodes {N} W = (tell : Place → Place) (here above : Place) (t : TypeRef) (r : Reply N) (o : Occurrence) (vs : List Value)
    (ess : List (List Listed)) →
    AreWalkedAt tell W o.below (reply_node_spots W here t r) vs ess →
    (v : Value) → v ≡ (fill (reply_skeleton W t r) vs).value → (more : List Listed) →
    more ≡ listed_spots tell o.head.span.start (reply_error_spots W here t r) ++ all_listed ess →
    IsCompleted tell W here above t r (o.head.span.start ∷ []) o.below v more

-- all occurrences at once: the nodes were walked for what all select, each failure listed for the first of its field's occurrences
-- (6.4.3)
abbrev pub GroupByNodes : {N : Type 0} → World N → Type 0
GroupByNodes {N} W = (tell : Place → Place) (here above : Place) (t : TypeRef) (r : Reply N) (o : Occurrence) (rest : List Occurrence) (vs : List Value)
    (ess : List (List Listed)) →
    AreObjectsOf tell W (λ U n. data_of W U n (all_below (o ∷ rest)))
    (λ place to U n. map (for_picked first_start) (failures_of W place to U n (all_below (o ∷ rest))))
    (λ place U n. nulls_of W place U n (all_below (o ∷ rest))) (reply_stops W here above t r) vs ess →
    (v : Value) → v ≡ (fill (reply_skeleton W t r) vs).value → (more : List Listed) →
    more ≡ listed_apart W tell here o.head.span.start t r ++ all_listed ess →
    GroupCompleted tell first_start W here above t r (o ∷ rest) v more

module _ (tell : Place → Place) (pick : List Position → List Position) {N : Type 0} (W : World N) where
  -- the selections s of a node at its place were walked, wherever its null lands: its object, with each failure listed for those of
  -- its field's occurrences that are picked (6.3, 6.4.4)
  pub record IsWalkedOnce (s : Forest) (x : Spot N) (v : Value) (es : List Listed) : Type 0 where
    pub value : v ≡ data_of W (W.concrete x.what) x.what s
    pub errors : (lands : Place) → Met tell (is_null v) es (map (for_picked pick) (failures_of W x.place lands (W.concrete x.what) x.what s)) lands
        (nulls_of W x.place (W.concrete x.what) x.what s)

  -- and those of each node
  abbrev pub AreWalkedOnce : Forest → List (Spot N) → List Value → List (List Listed) → Type 0
  AreWalkedOnce s [] [] [] = Unit {0}
  AreWalkedOnce s (x ∷ xs) (v ∷ vs) (es ∷ ess) = IsWalkedOnce s x v es × AreWalkedOnce s xs vs ess
  AreWalkedOnce s xs vs ess = ⊥

-- all occurrences at once: the nodes were walked for what all select, each at its place, each failure listed for the first of its
-- field's occurrences (6.4.3)
abbrev pub GroupBySpots : {N : Type 0} → World N → Type 0
GroupBySpots {N} W = (tell : Place → Place) (here above : Place) (t : TypeRef) (r : Reply N) (o : Occurrence) (rest : List Occurrence) (vs : List Value)
    (ess : List (List Listed)) → AreWalkedOnce tell first_start W (all_below (o ∷ rest)) (reply_node_spots W here t r) vs ess →
    (v : Value) → v ≡ (fill (reply_skeleton W t r) vs).value → (more : List Listed) →
    more ≡ listed_spots tell o.head.span.start (reply_error_spots W here t r) ++ all_listed ess →
    GroupCompleted tell first_start W here above t r (o ∷ rest) v more
