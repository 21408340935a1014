use Rattle.std.proofs.Common.{ℕ, List, take}
use Rattle.juniper_merging.specs.MergingGraph.{FieldAt}
use Rattle.juniper_merging.specs.United.{AreWholesMade}
use Rattle.juniper_merging.proofs.uniting.Uniting.wholes_of.Given as goal

-- the nodes of the parts before this place
abbrev pub invariant-loop-part : goal.invariant-loop-part
invariant-loop-part l = (vs : List FieldAt) (t : List (List ℕ)) → AreWholesMade vs t l.fn.self l.self (take l.part-index l.parts) l.wholes.items
