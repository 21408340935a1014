use Rattle.std.proofs.Common.{ℕ, List, ◌++◌, take}
use Rattle.juniper_merging.specs.Groups.{group_in}
use Rattle.juniper_merging.specs.Uniting.{AreFew}
use Rattle.juniper_merging.proofs.heads.put_few.Given as goal

-- those before this place were added
abbrev pub invariant-loop-number : goal.invariant-loop-number
invariant-loop-number l = (before : List ℕ) → AreFew before l.initial.few.items (group_in l.initial.groups) →
    AreFew (before ++ take l.number-index l.numbers) l.few.items (group_in l.groups)
