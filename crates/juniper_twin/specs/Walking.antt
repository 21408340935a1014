-- What a walk over objects within objects promises (6.3, 6.4).
use Rattle.std.specs.Prelude.{◌≡◌, ℕ, ◌≤◌, suc, max, Bool, true, false, ◌&&◌, List, [], ◌∷◌, ◌++◌, map}
use Rattle.graphql_spec.specs.Shown.{Name, Shown}
use Rattle.graphql_spec.specs.Documents.{response_key}
use Rattle.graphql_spec.specs.Values.{Value, Entries, object, is_null}
use Rattle.graphql_spec.specs.Types.{required}
use Rattle.graphql_spec.specs.Errors.{Place, key, Listed}
use Rattle.graphql_spec.specs.ExactAnswers.{whole}
use Rattle.graphql_spec.specs.Selections.{Forest, depth, Occurrence, occurrences}
use Rattle.graphql_spec.specs.Resolvers.{World}
use Rattle.graphql_spec.specs.Execution.{type_of, reply_of}
use Rattle.graphql_spec.specs.Laws.{In}
use Rattle.graphql_spec.specs.Skeletons.{Spot, Skeleton, reply_skeleton, reply_node_spots, reply_error_spots, listed_spots, fill}
use Rattle.graphql_spec.specs.CompletionLaws.{all_listed}
use Rattle.graphql_spec.specs.Walks.{AreWalkedAt, IsWalked, joined_in}
use Rattle.juniper_assemble.specs.Keyed.{is_keyed}
use Rattle.juniper_assemble.specs.SkeletonView.{view_skeleton}
use Rattle.juniper_assemble.specs.SpotView.{view_nodes}
use Rattle.juniper_conversions.specs.ErrorView.{view_listed}
use Rattle.juniper_conversions.specs.declared.execution_error.ExecutionError.{ExecutionError}
use Rattle.juniper_syntax.specs.ValueView.{view_object, view_value}
use Rattle.juniper_syntax.specs.declared.value.Object.{Object}
use Rattle.juniper_walk.specs.Walking.{AllAgree}
use Rattle.juniper_twin.specs.declared.preparing.Prepared.{Prepared}
use Rattle.juniper_twin.specs.declared.walking.AllWalked.{AllWalked}

-- how deep what the fields select is nested, at most
unfoldable pub deepest : List Occurrence → ℕ
deepest [] = 0
deepest (o ∷ os) = max (suc (depth o.below)) (deepest os)

-- in each value the keys of objects differ
unfoldable pub all_keyed : List Value → Bool
all_keyed [] = true
all_keyed (v ∷ vs) = is_keyed v && all_keyed vs

module _ {N : Type 0} (W : World N) where
  -- so do those that selections hold for each of these nodes
  abbrev pub AreReached : List (Spot N) → Forest → Type 0
  AreReached ns s = (x : Spot N) → In x ns → AllAgree W (W.concrete x.what) (occurrences W.possible (W.concrete x.what) s)

  -- the fields of the node at a place were walked, wherever its null lands, and counted down from any depth that is deep enough
  pub record IsWalkedThrough (at : Place) (T : Name) (n : N) (os : List Occurrence) (v : Value) (es : List Listed) : Type 0 where
    pub walked : (d : ℕ) → deepest os ≤ d → (lands : Place) → IsWalked whole W d at lands T n os v es
    pub keyed : is_keyed v ≡ true

  -- so were the selections of each node at its place, with the errors of the one behind those of the other
  pub record AreAllWalked (s : Forest) (ns : List (Spot N)) (vs : List Value) (es : List Listed) : Type 0 where
    pub parts : List (List Listed)
    pub walked : AreWalkedAt whole W s ns vs parts
    pub listed : es ≡ all_listed parts
    pub keyed : all_keyed vs ≡ true

  -- ## Only private clauses cite what follows

  -- the answer to a field of a node, taken apart from its nodes
  pub record IsPrepared (at : Place) (T : Name) (m : N) (o : Occurrence) (r : Bool) (s : Skeleton) (ns : List (Spot N))
      (es : List Listed) : Type 0 where
    pub non_null : r ≡ required (type_of W T (o ∷ []))
    pub skeleton : s ≡ reply_skeleton W (type_of W T (o ∷ [])) (reply_of W T m (o ∷ []))
    pub nodes : ns ≡ reply_node_spots W (at ++ key (response_key o.head) ∷ []) (type_of W T (o ∷ [])) (reply_of W T m (o ∷ []))
    pub errors : es ≡ listed_spots whole o.head.span.start
        (reply_error_spots W (at ++ key (response_key o.head) ∷ []) (type_of W T (o ∷ [])) (reply_of W T m (o ∷ [])))

  -- the first fields were walked, of all of them
  pub record IsWalking (at : Place) (T : Name) (n : N) (all front : List Occurrence) (es : Entries) (errors : List Listed) : Type 0 where
    pub walked : (d : ℕ) → deepest all ≤ d → (lands : Place) → IsWalked whole W d at lands T n front (object es) errors
    pub keyed : is_keyed (object es) ≡ true

-- a field's value was added to its object, but where its null rises
pub record IsAdded (k : Name) (r : Bool) (s : Skeleton) (vs : List Value) (more : List Listed) (rises : Bool) (es made : Entries)
    (errors all : List Listed) : Type 0 where
  pub errors_are : all ≡ errors ++ more
  pub rising : rises ≡ (is_null (fill s vs).value && r)
  pub put_in : rises ≡ false → made ≡ joined_in k (fill s vs).value es
  pub keyed : rises ≡ false → is_keyed (object made) ≡ true

module _ {N S : Type 0} (shown : S → Shown) where
  -- the answer to a field of a node, taken apart, as it is kept
  abbrev pub IsPreparedAs : World N → Place → Name → N → Occurrence → Prepared N S → Type 0
  IsPreparedAs W at T m o p = IsPrepared W at T m o p.is_non_null (view_skeleton shown p.skeleton) (view_nodes p.nodes.items)
      (map (view_listed shown) p.errors.items)

  -- an answer with the objects of its nodes was added at a response key, but where its null rises, and what failed was listed
  abbrev pub IsAddedAt : Name → Prepared N S → AllWalked S → Bool → Object S → Object S → List (ExecutionError S) → List (ExecutionError S) → Type 0
  IsAddedAt k p walked rises o made errors all = IsAdded k p.is_non_null (view_skeleton shown p.skeleton) (map (view_value shown) walked.values.items)
      (map (view_listed shown) p.errors.items ++ map (view_listed shown) walked.errors.items) rises (view_object shown o) (view_object shown made)
      (map (view_listed shown) errors) (map (view_listed shown) all)
