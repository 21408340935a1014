use Rattle.std.proofs.Common.{ℕ, List, take}
use Rattle.juniper_merging.specs.Groups.{group_in}
use Rattle.juniper_merging.specs.Questions.{seen}
use Rattle.juniper_merging.specs.Uniting.{AreHeads, own_fields}
use Rattle.juniper_merging.proofs.heads.heads_of.Given as goal

-- those of the sets before this place were added
abbrev pub invariant-loop-member : goal.invariant-loop-member
invariant-loop-member l = (t : List (List ℕ)) →
    AreHeads (seen t l.vertices) t (own_fields l.sets (take l.member-index l.members)) l.heads.items (group_in l.groups)
