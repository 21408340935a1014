use Rattle.std.proofs.Common.{◌≡◌, ℕ, []}
use Rattle.juniper_merging.specs.Listed.{listed}
use Rattle.juniper_merging.proofs.key_index.empty_lists.Given as goal

-- nothing is listed
abbrev pub invariant-loop-index : goal.invariant-loop-index
invariant-loop-index g l = (i : ℕ) → listed l.lists.items i ≡ []
