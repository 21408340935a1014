-- Questions on sets of fields and their answers; only private clauses cite most of what stands here.
use Rattle.std.specs.Prelude.{ℕ, Bool, true, false, not, ◌||◌, List, Option, Some, map, ◌≡◌}
use Rattle.std.specs.List.{list_all, slice_get}
use Rattle.juniper_merging.specs.MergingGraph.{FieldAt, each_pair_at, merge_at, same_key_at, set_merges_at, view_vertex}
use Rattle.juniper_merging.specs.Tables.{set_at, table_of}
use Rattle.juniper_merging.specs.declared.clash.Clash.{Clash}
use Rattle.juniper_merging.specs.declared.clash.Clash.TheVariants as clash
use Rattle.juniper_merging.specs.declared.known.Judged.{Judged}
use Rattle.juniper_merging.specs.declared.known.Known.{Known}
use Rattle.juniper_merging.specs.declared.graph.Graph.{Graph}
use Rattle.juniper_merging.specs.declared.graph.Vertex.{Vertex}

-- an answer to a question that is asked for every depth, if there is one
pub record IsTold (test : ℕ → Bool) (o : Option Bool) : Type 0 where
  pub yes : o ≡ Some true → (n : ℕ) → test n ≡ true
  pub no : o ≡ Some false → (n : ℕ) × (test n ≡ false)

-- what stands against two things
unfoldable pub worse : Clash → Clash → Clash
worse clash.Nothing c = c
worse clash.Shape c = clash.Shape
worse clash.Merging clash.Nothing = clash.Merging
worse clash.Merging clash.Merging = clash.Merging
worse clash.Merging clash.Shape = clash.Shape

-- whether fields can be merged or, where they need not, agree in shape
unfoldable pub passes : Bool → Clash → Bool
passes m clash.Nothing = true
passes m clash.Shape = false
passes true clash.Merging = false
passes false clash.Merging = true

-- what stands against it that one of two tests passes, which is asked for every depth
abbrev pub Tells : (Bool → ℕ → Bool) → Clash → Type 0
Tells T c = (m : Bool) → IsTold (T m) (Some (passes m c))

module _ (vs : List FieldAt) where
  -- two numbers pass the test, if they have one response key
  unfoldable pub tested_at : (ℕ → ℕ → Bool) → ℕ → ℕ → Bool
  tested_at R i j = not (same_key_at (slice_get vs i) (slice_get vs j)) || R i j

  -- so does each of the first numbers with each of the second
  unfoldable pub between_at : (ℕ → ℕ → Bool) → List ℕ → List ℕ → Bool
  between_at R is js = list_all (λ j. list_all (λ i. tested_at R i j) is) js

  abbrev pub Pairs : List ℕ → Bool → ℕ → Bool
  Pairs is m n = each_pair_at vs (merge_at vs n m) is

  abbrev pub Beside : ℕ → List ℕ → Bool → ℕ → Bool
  Beside i js m n = list_all (tested_at (merge_at vs n m) i) js

-- what is known of a set that holds these fields
pub record IsJudgedSet (vs : List FieldAt) (l : List ℕ) (j : Judged) : Type 0 where
  pub merges : j.merges ≡ true → (n : ℕ) → set_merges_at vs n l ≡ true
  pub differs : j.differs ≡ true → (n : ℕ) × (set_merges_at vs n l ≡ false)

-- what is known of each set is right
abbrev pub IsSound : List FieldAt → List (List ℕ) → Known → Type 0
IsSound vs t k = (set : ℕ) (j : Judged) → slice_get k.judged.items set ≡ Some j → IsJudgedSet vs (set_at t set) j

-- the fields of vertices
abbrev pub seen : List (List ℕ) → List Vertex → List FieldAt
seen t vertices = map (view_vertex t) vertices

-- the fields of a graph
abbrev pub fields_of : Graph → List FieldAt
fields_of g = seen (table_of g.sets.now) g.vertices.now

-- what is known is right
abbrev pub IsSoundIn : Graph → Known → Type 0
IsSoundIn g k = IsSound (fields_of g) (table_of g.sets.now) k
