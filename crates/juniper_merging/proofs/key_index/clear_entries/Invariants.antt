use Rattle.std.proofs.Common.{ℕ, List, take}
use Rattle.juniper_merging.specs.Questions.{seen}
use Rattle.juniper_merging.proofs.Indexed.{AreCleared}
use Rattle.juniper_merging.proofs.key_index.clear_entries.Given as goal

-- the entries before this place are taken out
abbrev pub invariant-loop-entry : goal.invariant-loop-entry
invariant-loop-entry l = (t : List (List ℕ)) → AreCleared (seen t l.vertices) (take l.entry-index l.entries) l.initial.index.items l.index.items
