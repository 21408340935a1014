-- Nodes that refer to others by their places (5.3.2). Only private clauses cite what stands here.
use Rattle.std.specs.Prelude.{ℕ, List, [], ◌∷◌, ◌++◌, Option, Some, None, length, ◌≡◌, ◌⊎◌}
use Rattle.std.specs.List.{slice_get}
use Rattle.juniper_merging.specs.MergingGraph.{FieldAt}
use Rattle.juniper_merging.specs.Nodes.{Says, list_of}
use Rattle.juniper_merging.specs.declared.clash.Clash.{Clash}
use Rattle.juniper_merging.specs.declared.nodes.Entry.{Entry}
use Rattle.juniper_merging.specs.declared.nodes.Node.{Node}
use Rattle.juniper_merging.specs.declared.uniting.United.{United}

-- what nodes hold, by the numbers by which they were begun
unfoldable pub held_by : (ℕ → List ℕ) → List ℕ → ℕ → List ℕ
held_by H numbers p = list_of H (slice_get numbers p)

-- by which number each node was begun
module _ (numbers : List ℕ) where
  -- a place in place of a number, where there is one
  abbrev pub IsChildAt : Option ℕ → Option ℕ → Type 0
  IsChildAt old new = ((old ≡ None) × (new ≡ None)) ⊎ ((c : ℕ) × (p : ℕ) × (old ≡ Some c) × (new ≡ Some p) × (slice_get numbers p ≡ Some c))

  pub record IsEntryAt (old new : Entry) : Type 0 where
    pub field : new.field ≡ old.field
    pub many : new.is_many ≡ old.is_many
    pub child : IsChildAt old.child new.child

  pub record AreEntriesAt (old new : List Entry) : Type 0 where
    pub count : length new ≡ length old
    pub each : (p : ℕ) (e : Entry) → slice_get new p ≡ Some e → (f : Entry) × (slice_get old p ≡ Some f) × IsEntryAt f e

  pub record ArePartsAt (old new : List ℕ) : Type 0 where
    pub count : length new ≡ length old
    pub each : (p a : ℕ) → slice_get new p ≡ Some a → (b : ℕ) × (slice_get old p ≡ Some b) × (slice_get numbers a ≡ Some b)

  pub record IsNodeAt (old new : Node) : Type 0 where
    pub entries : AreEntriesAt old.entries.items new.entries.items
    pub parts : ArePartsAt old.parts.items new.parts.items

-- each of these nodes is one of those that were made
pub record ArePlaced (made : List United) (numbers : List ℕ) (nodes : List Node) : Type 0 where
  pub count : length numbers ≡ length nodes
  pub each : (a : ℕ) (n : Node) → slice_get nodes a ≡ Some n → (k : ℕ) × (w : United) × (slice_get made k ≡ Some w) × (slice_get numbers a ≡ Some w.number)
      × IsNodeAt numbers w.node n

-- a node is put behind the others, with the number by which it was begun
abbrev pub IsPutBehind : List ℕ → List ℕ → List Node → List Node → United → Type 0
IsPutBehind numbers more nodes longer w = (more ≡ numbers ++ w.number ∷ []) × ((n : Node) × (longer ≡ nodes ++ n ∷ []) × IsNodeAt numbers w.node n)

-- what is known of nodes is right
abbrev pub AreTold : List FieldAt → (ℕ → List ℕ) → List ℕ → List Clash → Type 0
AreTold vs H numbers within = (a : ℕ) (c : Clash) → slice_get within a ≡ Some c → Says vs (held_by H numbers a) c
