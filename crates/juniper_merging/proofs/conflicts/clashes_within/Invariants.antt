use Rattle.std.proofs.Common.{ℕ, List}
use Rattle.juniper_merging.specs.Conflicts.{AreAnswered}
use Rattle.juniper_merging.specs.Nodes.{AreNodes}
use Rattle.juniper_merging.specs.Questions.{seen}
use Rattle.juniper_merging.proofs.conflicts.clashes_within.Given as goal

-- the nodes before this one were looked at
abbrev pub invariant-loop-number : goal.invariant-loop-number
invariant-loop-number l = (t : List (List ℕ)) (H : ℕ → List ℕ) → AreNodes (seen t l.vertices) H l.nodes →
    AreAnswered (seen t l.vertices) H l.conflicts l.index.items l.number
