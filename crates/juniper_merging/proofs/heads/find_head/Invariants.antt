use Rattle.std.proofs.Common.{◌≡◌, ℕ, List, Some, take}
use Rattle.std.specs.List.{slice_get}
use Rattle.graphql_spec.specs.Laws.{In}
use Rattle.juniper_merging.specs.MergingGraph.{FieldAt, view_vertex}
use Rattle.juniper_merging.specs.Nodes.{SameHead}
use Rattle.juniper_merging.specs.Questions.{seen}
use Rattle.juniper_merging.specs.declared.heads.Head.{Head}
use Rattle.juniper_merging.proofs.heads.find_head.Given as goal

-- none before this place is
abbrev pub invariant-loop-place : goal.invariant-loop-place
invariant-loop-place l = (t : List (List ℕ)) (p : ℕ) → In p (take l.place-index l.group) → (hd : Head) → slice_get l.heads p ≡ Some hd → (h : FieldAt) →
    slice_get (seen t l.vertices) hd.field ≡ Some h → SameHead h (view_vertex t l.vertex) → ⊥
