-- What a walk over a plan promises (6.3, 6.4).
use Rattle.std.specs.Prelude.{◌≡◌, Bool, false, ◌&&◌, List, [], ◌∷◌, ◌++◌, map}
use Rattle.graphql_spec.specs.Shown.{Name}
use Rattle.graphql_spec.specs.Values.{Value, Entries, object, is_null, put}
use Rattle.graphql_spec.specs.Types.{required}
use Rattle.graphql_spec.specs.Errors.{Place, key, Listed}
use Rattle.graphql_spec.specs.ExactAnswers.{whole}
use Rattle.graphql_spec.specs.Selections.{Forest, Occurrence, with_key}
use Rattle.graphql_spec.specs.Resolvers.{World}
use Rattle.graphql_spec.specs.Execution.{data_of, type_of, reply_of}
use Rattle.graphql_spec.specs.Failures.{failures_of}
use Rattle.graphql_spec.specs.Nulls.{nulls_of}
use Rattle.graphql_spec.specs.Walk.{Met}
use Rattle.graphql_spec.specs.GroupLaws.{for_picked, first_start}
use Rattle.graphql_spec.specs.GroupWalks.{KeysWalked}
use Rattle.graphql_spec.specs.Skeletons.{Spot, Skeleton, fill, listed_spots, reply_error_spots, reply_node_spots, reply_skeleton}
use Rattle.graphql_spec.specs.CompletionLaws.{all_listed}
use Rattle.graphql_spec.specs.NodeLaws.{AreWalkedOnce}

-- there is an occurrence
pub record HasFirst (os : List Occurrence) : Type 0 where
  pub first : Occurrence
  pub others : List Occurrence
  pub some : os ≡ first ∷ others

module _ {N : Type 0} (W : World N) where
  -- the object of the node m of type T at a place was walked for the selections s, wherever its null lands: its value, and what was
  -- listed of what fails in it, each failure at its exact place, for the first of its field's occurrences (6.3, 6.4.4, 7.1.2)
  pub record IsObjectWalked (at : Place) (s : Forest) (T : Name) (m : N) (v : Value) (es : List Listed) : Type 0 where
    pub value : v ≡ data_of W T m s
    pub errors : (lands : Place) → Met whole (is_null v) es (map (for_picked first_start) (failures_of W at lands T m s)) lands (nulls_of W at T m s)

  -- so were those of each node at its place, with the errors of the one behind those of the other
  pub record AreObjectsWalked (s : Forest) (ns : List (Spot N)) (vs : List Value) (es : List Listed) : Type 0 where
    pub parts : List (List Listed)
    pub walked : AreWalkedOnce whole first_start W s ns vs parts
    pub listed : es ≡ all_listed parts

  -- what an answer lists of the failures of the selections s on the root m of type T: each for the first of its field's occurrences
  abbrev pub IsFirstsAnswer : Name → N → Forest → Value → List Listed → Type 0
  IsFirstsAnswer T m s v es = Met whole (is_null v) es (map (for_picked first_start) (failures_of W [] [] T m s)) [] (nulls_of W [] T m s)

  -- ## Only private clauses cite what follows

  -- the first response keys were walked
  abbrev pub IsWalking : Place → Name → N → List Occurrence → List Name → Entries → List Listed → Type 0
  IsWalking at T m os ks es errors = (lands : Place) → KeysWalked W at lands T m os whole first_start ks (object es) errors

-- the occurrences are all of one response key, and there is one
pub record IsGroupOf (k : Name) (all os : List Occurrence) : Type 0 where
  pub first : Occurrence
  pub others : List Occurrence
  pub some : os ≡ first ∷ others
  pub whole : os ≡ with_key k all

module _ {N : Type 0} (W : World N) where
  -- the answer to the occurrences os of the response key k, taken apart from its nodes
  pub record IsPrepared (at : Place) (T : Name) (m : N) (k : Name) (os : List Occurrence) (key_is : Name) (r : Bool) (s : Skeleton) (ns : List (Spot N))
      (es : List Listed) : Type 0 where
    pub first : Occurrence
    pub others : List Occurrence
    pub some : os ≡ first ∷ others
    pub same : key_is ≡ k
    pub non_null : r ≡ required (type_of W T os)
    pub skeleton : s ≡ reply_skeleton W (type_of W T os) (reply_of W T m os)
    pub nodes : ns ≡ reply_node_spots W (at ++ key k ∷ []) (type_of W T os) (reply_of W T m os)
    pub errors : es ≡ listed_spots whole first.head.span.start (reply_error_spots W (at ++ key k ∷ []) (type_of W T os) (reply_of W T m os))

-- a value was put at its key, but where its null rises
pub record IsPut (k : Name) (r : Bool) (s : Skeleton) (vs : List Value) (more : List Listed) (rises : Bool) (es made : Entries)
    (errors all : List Listed) : Type 0 where
  pub lists : all ≡ errors ++ more
  pub loses : rises ≡ (is_null (fill s vs).value && r)
  pub puts : rises ≡ false → made ≡ put k (fill s vs).value es
