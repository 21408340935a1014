-- How sets are put together: their fields by what they differ in, and the nodes that are made of them (5.3.2). Only private clauses cite what
-- stands here.
use Rattle.std.specs.Prelude.{ℕ, Bool, true, false, List, [], ◌∷◌, ◌++◌, Option, Some, None, cond, nat_eq, not, slice_set, ◌&&◌, ◌≡◌, ◌+◌, ◌*◌, ◌%◌}
use Rattle.std.specs.List.{slice_get}
use Rattle.std.specs.Str.{bytes_eq}
use Rattle.graphql_spec.specs.Laws.{In}
use Rattle.juniper_merging.specs.MergingGraph.{FieldAt}
use Rattle.juniper_merging.specs.Nodes.{Alike, HasHead, SameHead, Selects}
use Rattle.juniper_merging.specs.Standing.{Both}
use Rattle.juniper_merging.specs.Tables.{joined}
use Rattle.juniper_merging.specs.declared.heads.Head.{Head}
use Rattle.juniper_merging.specs.declared.sets.FieldSet.{FieldSet}

-- the number, if there is one
unfoldable pub list_or_none : Option ℕ → List ℕ
list_or_none None = []
list_or_none (Some i) = i ∷ []

unfoldable pub fields_or_none : Option FieldSet → List ℕ
fields_or_none None = []
fields_or_none (Some s) = s.fields.items

unfoldable pub parts_or_none : Option FieldSet → List ℕ
parts_or_none None = []
parts_or_none (Some s) = s.parts.items

-- the own fields, and the parts, of several sets, one behind the other
unfoldable pub own_fields : List FieldSet → List ℕ → List ℕ
own_fields sets [] = []
own_fields sets (m ∷ ms) = fields_or_none (slice_get sets m) ++ own_fields sets ms

unfoldable pub own_parts : List FieldSet → List ℕ → List ℕ
own_parts sets [] = []
own_parts sets (m ∷ ms) = parts_or_none (slice_get sets m) ++ own_parts sets ms

-- two fields differ in nothing but what they select
unfoldable pub same_heads : FieldAt → FieldAt → Bool
same_heads v w =
    nat_eq v.shape w.shape && (nat_eq v.call w.call && (cond v.on_object w.on_object (not w.on_object) && (bytes_eq v.parent w.parent && nat_eq v.key w.key)))

-- ## Each at most twice

-- the numbers of the one list stand in the other, each as often, but not more than twice; a group says of which it is known
pub record AreFew (all few : List ℕ) (groups : ℕ → List ℕ) : Type 0 where
  pub alike : Alike all few
  pub once : (x : ℕ) → In x (groups x) → In x few
  pub twice : (x : ℕ) → Both x x (groups x) → Both x x few
  pub only : (x y : ℕ) → In y (groups x) → y ≡ x

-- ## Heads

-- the number of the group of a field of this response key and call: fields of one head have one number, and others seldom do, which saves time alone
unfoldable pub group_number : ℕ → ℕ → ℕ
group_number key call = ((key * 1000003) % 18446744073709551616 + call) % 18446744073709551616

-- a place is added to a head
abbrev pub IsPlaceAdded : List Head → List Head → ℕ → Option ℕ → Type 0
IsPlaceAdded old new place below = (head : Head) → slice_get old place ≡ Some head → (more : Head) × (new ≡ slice_set old place more) × (more.field ≡
    head.field)
    × (more.is_many ≡ true) × (more.below.items ≡ head.below.items ++ list_or_none below)

module _ (vs : List FieldAt) where
  -- whether the field of this number differs from v in nothing but what it selects
  abbrev pub IsSameAt : ℕ → FieldAt → Bool → Type 0
  IsSameAt i v b = (b ≡ true → (h : FieldAt) × (slice_get vs i ≡ Some h) × SameHead h v)
      × (b ≡ false → (h : FieldAt) → slice_get vs i ≡ Some h → SameHead h v → ⊥)

  -- whether that of the head at this place does
  abbrev pub IsFoundAt : List Head → ℕ → FieldAt → Bool → Type 0
  IsFoundAt heads p v b = (b ≡ true → (hd : Head) × (slice_get heads p ≡ Some hd) × ((h : FieldAt) × (slice_get vs hd.field ≡ Some h) × SameHead h v))
      × (b ≡ false → (hd : Head) → slice_get heads p ≡ Some hd → (h : FieldAt) → slice_get vs hd.field ≡ Some h → SameHead h v → ⊥)

  -- the place of a head of a group that does
  abbrev pub IsFound : List Head → List ℕ → FieldAt → Option ℕ → Type 0
  IsFound heads group v o = ((p : ℕ) → o ≡ Some p → (hd : Head) × (slice_get heads p ≡ Some hd) × ((h : FieldAt) × (slice_get vs hd.field ≡ Some h) ×
      SameHead h v))
      × (o ≡ None → (p : ℕ) → In p group → (hd : Head) → slice_get heads p ≡ Some hd → (h : FieldAt) → slice_get vs hd.field ≡ Some h → SameHead h v → ⊥)

  module _ (t : List (List ℕ)) where
    -- a head is of those of these fields that differ in nothing but what they select
    pub record IsHead (fields : List ℕ) (hd : Head) : Type 0 where
      pub head : FieldAt
      pub there : slice_get vs hd.field ≡ Some head
      pub inside : In hd.field fields
      pub lone : hd.is_many ≡ false → (i j : ℕ) → Both i j fields → HasHead vs head i → HasHead vs head j → ⊥
      pub many : hd.is_many ≡ true → (i : ℕ) × (j : ℕ) × Both i j fields × HasHead vs head i × HasHead vs head j
      pub selects : Selects vs fields head (joined t hd.below.items)

    -- each of these fields is of one head, which its group has
    pub record AreHeads (fields : List ℕ) (heads : List Head) (groups : ℕ → List ℕ) : Type 0 where
      pub each : (p : ℕ) (hd : Head) → slice_get heads p ≡ Some hd → IsHead fields hd
      pub known : (i : ℕ) → In i fields → (v : FieldAt) × (slice_get vs i ≡ Some v)
      pub covers : (i : ℕ) (v : FieldAt) → In i fields → slice_get vs i ≡ Some v →
          (p : ℕ) × (hd : Head) × (slice_get heads p ≡ Some hd) × ((h : FieldAt) × (slice_get vs hd.field ≡ Some h) × SameHead h v)
      pub apart : (p q : ℕ) (hd he : Head) → slice_get heads p ≡ Some hd → slice_get heads q ≡ Some he → (p ≡ q → ⊥) → (h k : FieldAt) →
          slice_get vs hd.field ≡ Some h → slice_get vs he.field ≡ Some k → SameHead h k → ⊥
      pub grouped : (p : ℕ) (hd : Head) (h : FieldAt) → slice_get heads p ≡ Some hd → slice_get vs hd.field ≡ Some h → In p (groups (group_number h.key h.call))
