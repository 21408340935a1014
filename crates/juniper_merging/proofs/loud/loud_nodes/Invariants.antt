use Rattle.std.proofs.Common.{◌≡◌, ℕ, List, length}
use Rattle.juniper_merging.specs.Conflicts.{AreQuiet}
use Rattle.juniper_merging.specs.Nodes.{AreNodes}
use Rattle.juniper_merging.specs.Questions.{seen}
use Rattle.juniper_merging.proofs.loud.loud_nodes.Given as goal

-- the nodes before this place were looked at
abbrev pub invariant-loop-node : goal.invariant-loop-node
invariant-loop-node l = (t : List (List ℕ)) (H : ℕ → List ℕ) → AreNodes (seen t l.vertices) H l.nodes →
    (length l.loud.items ≡ l.node-index) × AreQuiet (seen t l.vertices) H l.loud.items
