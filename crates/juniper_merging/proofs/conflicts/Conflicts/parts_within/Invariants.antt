use Rattle.std.proofs.Common.{ℕ, List, take}
use Rattle.juniper_merging.specs.Conflicts.{AreKnown}
use Rattle.juniper_merging.specs.MergingGraph.{FieldAt}
use Rattle.juniper_merging.specs.Nodes.{Says, flat}
use Rattle.juniper_merging.proofs.conflicts.Conflicts.parts_within.Given as goal

-- how those before this place clash
abbrev pub invariant-loop-place : goal.invariant-loop-place
invariant-loop-place l = (vs : List FieldAt) (H : ℕ → List ℕ) → AreKnown vs H l.self → Says vs (flat H (take l.place l.parts)) l.found
