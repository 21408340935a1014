-- What the objects of an answer's nodes make of the answer, as statements (6.4.3, 6.4.4).
use Rattle.std.specs.Prelude.{List, [], ◌∷◌, ◌++◌, ◌≡◌, ◌&&◌}
use Rattle.graphql_spec.specs.Shown.{Name}
use Rattle.graphql_spec.specs.Positions.{Position}
use Rattle.graphql_spec.specs.Values.{Value, is_null}
use Rattle.graphql_spec.specs.Types.{TypeRef, required}
use Rattle.graphql_spec.specs.Errors.{Place, Listed}
use Rattle.graphql_spec.specs.Resolvers.{World, Reply}
use Rattle.graphql_spec.specs.Execution.{finish}
use Rattle.graphql_spec.specs.Failures.{Failure, reply_faults}
use Rattle.graphql_spec.specs.Nulls.{reply_standing}
use Rattle.graphql_spec.specs.Walk.{Met}
use Rattle.graphql_spec.specs.Skeletons.{Stop, reply_skeleton, reply_stops, listed_apart, fill}

-- one list after the other
unfoldable pub all_listed : List (List Listed) → List Listed
all_listed [] = []
all_listed (es ∷ ess) = es ++ all_listed ess

module _ (tell : Place → Place) {N : Type 0} (W : World N) (objects : Name → N → Value) (at : Place → Place → Name → N → List Failure)
    (nulls : Place → Name → N → List Place) where
  -- the value is the node's object, and these errors are listed of what fails in it
  pub record IsObjectOf (x : Stop N) (v : Value) (es : List Listed) : Type 0 where
    pub value : v ≡ objects (W.concrete x.node) x.node
    pub errors : Met tell (is_null v) es (at x.place x.lands (W.concrete x.node) x.node) x.lands (nulls x.place (W.concrete x.node) x.node)

  -- one for each node
  abbrev pub AreObjectsOf : List (Stop N) → List Value → List (List Listed) → Type 0
  AreObjectsOf [] [] [] = Unit {0}
  AreObjectsOf (x ∷ xs) (v ∷ vs) (es ∷ ess) = IsObjectOf x v es × AreObjectsOf xs vs ess
  AreObjectsOf xs vs ess = ⊥

  -- a reply is completed by the objects of its nodes: they fill the holes, and their errors follow those of the rest
  abbrev pub CompletesApart : Type 0
  CompletesApart = (here above : Place) (start : Position) (t : TypeRef) (r : Reply N) (vs : List Value) (ess : List (List Listed)) →
      AreObjectsOf (reply_stops W here above t r) vs ess →
      ((fill (reply_skeleton W t r) vs).value ≡ finish W objects t r)
      × Met tell (is_null (finish W objects t r) && required t) (listed_apart W tell here start t r ++ all_listed ess)
      (reply_faults W at here (start ∷ []) above t r) above (reply_standing W objects nulls here t r)
