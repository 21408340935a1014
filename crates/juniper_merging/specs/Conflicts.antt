-- How nodes conflict, of which some were looked at, one after the other (5.3.2). Only private clauses cite what stands here.
use Rattle.std.specs.Prelude.{ℕ, Bool, true, false, List, [], Option, Some, None, Vec, cond, length, ◌-◌, ◌≡◌, ◌⊎◌}
use Rattle.std.specs.List.{slice_get}
use Rattle.std.specs.declared.alloc.Global.{Global}
use Rattle.graphql_spec.specs.Laws.{In}
use Rattle.juniper_merging.specs.Listed.{listed}
use Rattle.juniper_merging.specs.MergingGraph.{FieldAt, merge_at}
use Rattle.juniper_merging.specs.Nodes.{BadPair, HasHead, Says, SaysBoth}
use Rattle.juniper_merging.specs.Questions.{passes, tested_at}
use Rattle.juniper_merging.specs.declared.asks.Asks.{Asks}
use Rattle.juniper_merging.specs.declared.clash.Clash.{Clash}
use Rattle.juniper_merging.specs.declared.clash.Clash.TheVariants as clash
use Rattle.juniper_merging.specs.declared.conflicts.Conflicts.{Conflicts}
use Rattle.juniper_merging.specs.declared.graph.Vertex.{Vertex}
use Rattle.juniper_merging.specs.declared.nodes.Entry.{Entry}

-- how two fields of one response key and one shape clash, by whether they may meet, have one call, and how what they select clashes
unfoldable pub over : Bool → Bool → Clash → Clash
over met same clash.Shape = clash.Shape
over true same clash.Merging = clash.Merging
over false same clash.Merging = clash.Nothing
over false same clash.Nothing = clash.Nothing
over true true clash.Nothing = clash.Nothing
over true false clash.Nothing = clash.Merging

-- ## What is asked and known of pairs

-- the distance that stands at a place
unfoldable pub distance_at : Asks → ℕ → Option ℕ
distance_at a p = cond a.is_dense (Some p) (slice_get a.far.items p)

unfoldable pub distance_or_none : Option Asks → ℕ → Option ℕ
distance_or_none None p = None
distance_or_none (Some a) p = distance_at a p

-- so does that of a node, if it has the place
abbrev pub asked_at : List Asks → ℕ → ℕ → Option ℕ
asked_at asks a p = distance_or_none (slice_get asks a) p

unfoldable pub flat_option : Option (Option Clash) → Option Clash
flat_option None = None
flat_option (Some c) = c

-- the clash at a place, if there is one
abbrev pub found_in : List (Option Clash) → ℕ → Option Clash
found_in row p = flat_option (slice_get row p)

unfoldable pub row_or_none : Option (Vec (Option Clash) Global) → List (Option Clash)
row_or_none None = []
row_or_none (Some row) = row.items

-- that of a node
abbrev pub clash_at : List (Vec (Option Clash) Global) → ℕ → ℕ → Option Clash
clash_at known a p = found_in (row_or_none (slice_get known a)) p

-- what the one has the other has, but for this clash at this place of this node
abbrev pub IsPutAt : List (Vec (Option Clash) Global) → List (Vec (Option Clash) Global) → ℕ → ℕ → Clash → Type 0
IsPutAt old new set place found = (a p : ℕ) (c : Clash) → clash_at new a p ≡ Some c →
    (clash_at old a p ≡ Some c) ⊎ ((a ≡ set) × (p ≡ place) × (c ≡ found))

-- ## Fields that are like the first of their response keys

-- a vertex is like the vertex whose number is that of its response key
abbrev pub IsLikeFirst : List Vertex → Vertex → Type 0
IsLikeFirst vs v = (first : Vertex) × (slice_get vs v.key ≡ Some first) × (v.shape ≡ first.shape) × (v.call ≡ first.call)

-- so is the vertex of an entry, and what it selects is no node, or one that is not loud
abbrev pub IsQuietEntry : List Vertex → List Bool → Entry → Type 0
IsQuietEntry vs loud e = (v : Vertex) → slice_get vs e.field ≡ Some v → IsLikeFirst vs v × ((d : ℕ) → e.child ≡ Some d → slice_get loud d ≡ Some false)

-- ## The entries of a node by their response keys

module _ (vs : List FieldAt) where
  -- the index has these entries, each at the number of its response key
  pub record IsIndexOf (index : List (Vec Entry Global)) (es : List Entry) : Type 0 where
    pub all : (e : Entry) (v : FieldAt) → In e es → slice_get vs e.field ≡ Some v → In e (listed index v.key)
    pub only : (k : ℕ) (e : Entry) → In e (listed index k) → In e es × ((v : FieldAt) × (slice_get vs e.field ≡ Some v) × (v.key ≡ k))

  -- what the new index has the old one has, and none of it has the response key of this entry
  abbrev pub IsCleared : Entry → List (Vec Entry Global) → List (Vec Entry Global) → Type 0
  IsCleared x old new = (k : ℕ) (e : Entry) → In e (listed new k) → In e (listed old k) × ((v : FieldAt) → slice_get vs x.field ≡ Some v → (v.key ≡ k → ⊥))

  -- how those of these fields that are of entries clash with those of others that have the head k
  pub record AreAllPaired (F G : List ℕ) (es : List Entry) (k : FieldAt) (c : Clash) : Type 0 where
    pub good : (m : Bool) → passes m c ≡ true → (e : Entry) → In e es → (h : FieldAt) → slice_get vs e.field ≡ Some h →
        (n i j : ℕ) → In i F → HasHead vs h i → In j G → HasHead vs k j → tested_at vs (merge_at vs n m) i j ≡ true
    pub bad : (m : Bool) → passes m c ≡ false → (e : Entry) × In e es × ((h : FieldAt) × (slice_get vs e.field ≡ Some h) × BadPair vs F G h k m)

  module _ (H : ℕ → List ℕ) where
    -- a field is like the first of its response key, and what it selects is of nodes that are not loud
    pub record IsQuiet (loud : List Bool) (v : FieldAt) : Type 0 where
      pub first : FieldAt
      pub there : slice_get vs v.key ≡ Some first
      pub shape : v.shape ≡ first.shape
      pub call : v.call ≡ first.call
      pub below : (x : ℕ) → In x v.below → (d : ℕ) × (slice_get loud d ≡ Some false) × In x (H d)

    abbrev pub IsQuietNumber : List Bool → ℕ → Type 0
    IsQuietNumber loud i = (v : FieldAt) → slice_get vs i ≡ Some v → IsQuiet loud v

    -- the fields of a node that is not loud are so
    abbrev pub AreQuiet : List Bool → Type 0
    AreQuiet loud = (a i : ℕ) → slice_get loud a ≡ Some false → In i (H a) → IsQuietNumber loud i

    -- what is known of nodes and of pairs is right
    pub record AreKnown (c : Conflicts) : Type 0 where
      pub quiet : AreQuiet c.loud.items
      pub within : (a : ℕ) (x : Clash) → slice_get c.within.items a ≡ Some x → Says vs (H a) x
      pub between : (a p far : ℕ) (x : Clash) → asked_at c.asks.items a p ≡ Some far → clash_at c.known.items a p ≡ Some x →
          SaysBoth vs (H a) (H (a - far)) x

    -- so is all of the nodes before the k-th, and the index has no entries
    pub record AreAnswered (c : Conflicts) (index : List (Vec Entry Global)) (k : ℕ) : Type 0 where
      pub known : AreKnown c
      pub count : length c.within.items ≡ k
      pub empty : (i : ℕ) → listed index i ≡ []
