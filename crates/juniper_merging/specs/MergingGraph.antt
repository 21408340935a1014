-- Whether fields that stand at the vertices of a graph can be merged (FieldsInSetCanMerge, SameResponseShape, 5.3.2).
use Rattle.std.specs.Prelude.{ℕ, zero, suc, Bool, true, false, not, ◌&&◌, ◌||◌, List, [], ◌++◌, Option, Some, nat_eq}
use Rattle.std.specs.List.{slice_get}
use Rattle.std.specs.Str.{bytes_eq}
use Rattle.graphql_spec.specs.Shown.{Name}
use Rattle.graphql_spec.specs.Merging.{each_two}
use Rattle.juniper_merging.specs.Tables.{below_in}
use Rattle.juniper_merging.specs.declared.graph.Vertex.{Vertex}

-- a field on its parent type: fields of one key have one response key, those of one shape types that agree, and those of one
-- call one name and the same arguments; what it selects is given by numbers
pub record FieldAt : Type 0 where
  pub key : ℕ
  pub parent : Name
  pub on_object : Bool
  pub shape : ℕ
  pub call : ℕ
  pub below : List ℕ

-- what the sets hold is given by a table
unfoldable pub view_vertex : List (List ℕ) → Vertex → FieldAt
view_vertex t v =
    record { key = v.key; parent = v.parent.now; on_object = v.on_object; shape = v.shape; call = v.call; below = below_in t v.below }

-- the parent types are the same, or one of them is no object type
unfoldable pub can_meet : FieldAt → FieldAt → Bool
can_meet x y = bytes_eq x.parent y.parent || (not x.on_object || not y.on_object)

-- two fields agree in shape and, where they must merge and may meet, in name and arguments; what they select is left aside
unfoldable pub agree : Bool → FieldAt → FieldAt → Bool
agree must_merge x y = nat_eq x.shape y.shape && (not (must_merge && can_meet x y) || nat_eq x.call y.call)

-- both numbers have a field, and the two have one response key
unfoldable pub same_key_at : Option FieldAt → Option FieldAt → Bool
same_key_at (Some x) (Some y) = nat_eq x.key y.key
same_key_at _ _ = false

-- the fields agree, where there are two
unfoldable pub agree_at : Bool → Option FieldAt → Option FieldAt → Bool
agree_at must_merge (Some x) (Some y) = agree must_merge x y
agree_at must_merge _ _ = true

-- there are two fields, which may meet
unfoldable pub meet_at : Option FieldAt → Option FieldAt → Bool
meet_at (Some x) (Some y) = can_meet x y
meet_at _ _ = false

-- what two fields select
unfoldable pub below_both : Option FieldAt → Option FieldAt → List ℕ
below_both (Some x) (Some y) = x.below ++ y.below
below_both _ _ = []

module _ (vs : List FieldAt) where
  -- each two numbers of one response key
  unfoldable pub each_pair_at : (ℕ → ℕ → Bool) → List ℕ → Bool
  each_pair_at R is = each_two (λ i j. not (same_key_at (slice_get vs i) (slice_get vs j)) || R i j) is

  -- two fields of one response key can be merged or, where they need not merge, agree in shape; n bounds how deep one looks
  unfoldable pub merge_at : ℕ → Bool → ℕ → ℕ → Bool
  merge_at zero must_merge i j = agree_at must_merge (slice_get vs i) (slice_get vs j)
  merge_at (suc n) must_merge i j = agree_at must_merge (slice_get vs i) (slice_get vs j)
      && each_pair_at (merge_at n (must_merge && meet_at (slice_get vs i) (slice_get vs j))) (below_both (slice_get vs i) (slice_get vs j))

  -- each two fields of one response key can be merged
  unfoldable pub set_merges_at : ℕ → List ℕ → Bool
  set_merges_at n set = each_pair_at (merge_at n true) set
