use Rattle.std.proofs.Common.{take}
use Rattle.juniper_merging.specs.Groups.{group_in}
use Rattle.juniper_merging.specs.Uniting.{AreFew, own_parts}
use Rattle.juniper_merging.proofs.heads.parts_of.Given as goal

-- those of the sets before this place were added
abbrev pub invariant-loop-member : goal.invariant-loop-member
invariant-loop-member l = AreFew (own_parts l.sets (take l.member-index l.members)) l.parts.items (group_in l.groups)
