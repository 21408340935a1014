use Rattle.std.proofs.Common.{ℕ, List, [], take}
use Rattle.juniper_merging.specs.Conflicts.{AreKnown, IsIndexOf}
use Rattle.juniper_merging.specs.Nodes.{AreEntries}
use Rattle.juniper_merging.specs.Questions.{seen}
use Rattle.juniper_merging.proofs.Beside.{IsWithin}
use Rattle.juniper_merging.proofs.conflicts.Conflicts.entries_within.Given as goal

-- how the fields of those before this place clash, which the index has
abbrev pub invariant-loop-entry : goal.invariant-loop-entry
invariant-loop-entry l = (t : List (List ℕ)) (H : ℕ → List ℕ) (fields : List ℕ) → AreKnown (seen t l.vertices) H l.self →
    AreEntries (seen t l.vertices) H fields l.entries → IsIndexOf (seen t l.vertices) l.initial.index.items [] →
    IsIndexOf (seen t l.vertices) l.index.items (take l.entry-index l.entries)
    × IsWithin (seen t l.vertices) H fields (take l.entry-index l.entries) l.found
