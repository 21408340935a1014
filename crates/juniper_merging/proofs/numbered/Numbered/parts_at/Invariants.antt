use Rattle.std.proofs.Common.{take}
use Rattle.juniper_merging.specs.Numbered.{ArePartsAt}
use Rattle.juniper_merging.proofs.numbered.Numbered.parts_at.Given as goal

-- those before this place
abbrev pub invariant-loop-part : goal.invariant-loop-part
invariant-loop-part l = ArePartsAt l.self.numbers.items (take l.part-index l.parts) l.found.items
