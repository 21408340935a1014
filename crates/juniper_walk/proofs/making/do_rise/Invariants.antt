use Rattle.std.proofs.Common.{◌≡◌, ◌-◌, drop, get_or}
use Rattle.juniper_walk.specs.PlanLists.{rises, rises_from}
use Rattle.juniper_walk.proofs.making.do_rise.Given as goal

-- what is left decides
abbrev pub invariant-loop-index : goal.invariant-loop-index
invariant-loop-index l = rises l.numbers ≡ rises_from (get_or l.numbers (l.index - 1) 0) (drop l.index l.numbers)
