use Rattle.std.proofs.Common.{ℕ, List, take}
use Rattle.juniper_merging.specs.MergingGraph.{FieldAt}
use Rattle.juniper_merging.specs.United.{AreEntriesMade}
use Rattle.juniper_merging.proofs.uniting.Uniting.entries_of.Given as goal

-- those of the heads before this place
abbrev pub invariant-loop-place : goal.invariant-loop-place
invariant-loop-place l = (vs : List FieldAt) (t : List (List ℕ)) → AreEntriesMade vs t l.fn.self l.self (take l.place l.heads) l.judge l.entries.items
