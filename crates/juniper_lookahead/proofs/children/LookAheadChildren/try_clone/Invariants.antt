use Rattle.std.proofs.Common.{◌≡◌, take}
use Rattle.juniper_lookahead.proofs.children.LookAheadChildren.try_clone.Given as goal

-- what was gone over is copied
abbrev pub invariant-loop-child : goal.invariant-loop-child
invariant-loop-child g l = l.items.items ≡ take l.child-index l.child-items
