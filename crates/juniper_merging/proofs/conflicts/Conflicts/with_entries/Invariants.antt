use Rattle.std.proofs.Common.{ℕ, List, take}
use Rattle.juniper_merging.specs.Conflicts.{AreKnown, IsIndexOf}
use Rattle.juniper_merging.specs.Nodes.{AreEntries}
use Rattle.juniper_merging.specs.Questions.{seen}
use Rattle.juniper_merging.proofs.Beside.{IsBetween}
use Rattle.juniper_merging.proofs.conflicts.Conflicts.with_entries.Given as goal

-- how they clash with those before this place
abbrev pub invariant-loop-other : goal.invariant-loop-other
invariant-loop-other l = (t : List (List ℕ)) (H : ℕ → List ℕ) (F G : List ℕ) → AreKnown (seen t l.vertices) H l.self →
    IsIndexOf (seen t l.vertices) l.index l.entries → AreEntries (seen t l.vertices) H F l.entries → AreEntries (seen t l.vertices) H G l.others →
    IsBetween (seen t l.vertices) H F G l.entries (take l.other-index l.others) l.found
