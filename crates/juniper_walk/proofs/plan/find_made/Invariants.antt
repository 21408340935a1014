use Rattle.std.proofs.Common.{◌≡◌, drop}
use Rattle.juniper_walk.specs.PlanLists.{named_in}
use Rattle.juniper_walk.proofs.plan.find_made.Given as goal

abbrev pub invariant-loop-below : goal.invariant-loop-below
invariant-loop-below l = named_in l.concrete l.made ≡ named_in l.concrete (drop l.below-index l.made)
