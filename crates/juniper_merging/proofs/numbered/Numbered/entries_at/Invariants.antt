use Rattle.std.proofs.Common.{take}
use Rattle.juniper_merging.specs.Numbered.{AreEntriesAt}
use Rattle.juniper_merging.proofs.numbered.Numbered.entries_at.Given as goal

-- those before this place
abbrev pub invariant-loop-entry : goal.invariant-loop-entry
invariant-loop-entry l = AreEntriesAt l.self.numbers.items (take l.entry-index l.entries) l.found.items
