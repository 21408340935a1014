use Rattle.std.proofs.Common.{◌≡◌, ℕ, List, Some}
use Rattle.std.specs.List.{slice_get}
use Rattle.juniper_merging.specs.Conflicts.{AreKnown, IsIndexOf}
use Rattle.juniper_merging.specs.Nodes.{AreNodes}
use Rattle.juniper_merging.specs.Questions.{seen}
use Rattle.juniper_merging.proofs.conflicts.Conflicts.answer_pairs.Given as goal

-- what is known is right
abbrev pub invariant-loop-before : goal.invariant-loop-before
invariant-loop-before l = (l.self.within ≡ l.fn.self.within) × ((t : List (List ℕ)) (H : ℕ → List ℕ) → AreNodes (seen t l.vertices) H l.nodes →
    slice_get l.nodes l.number ≡ Some l.node → IsIndexOf (seen t l.vertices) l.index l.node.entries.items → AreKnown (seen t l.vertices) H l.fn.self →
    AreKnown (seen t l.vertices) H l.self)
