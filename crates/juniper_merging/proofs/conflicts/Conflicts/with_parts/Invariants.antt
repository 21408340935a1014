use Rattle.std.proofs.Common.{ℕ, List, take}
use Rattle.juniper_merging.specs.Conflicts.{AreKnown}
use Rattle.juniper_merging.specs.MergingGraph.{FieldAt}
use Rattle.juniper_merging.specs.Nodes.{SaysBoth, flat}
use Rattle.juniper_merging.proofs.conflicts.Conflicts.with_parts.Given as goal

-- how those before this place clash with it
abbrev pub invariant-loop-part : goal.invariant-loop-part
invariant-loop-part l = (vs : List FieldAt) (H : ℕ → List ℕ) → AreKnown vs H l.self → SaysBoth vs (flat H (take l.part-index l.parts)) (H l.other) l.found
