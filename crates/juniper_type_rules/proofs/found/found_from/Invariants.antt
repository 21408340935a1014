use Rattle.std.proofs.Common.{length}
use Rattle.juniper_type_rules.specs.Numbers.{IsFound, view_lists}
use Rattle.juniper_type_rules.proofs.Walking.{IsWalk}
use Rattle.juniper_type_rules.proofs.found.found_from.Given as goal

abbrev pub invariant-loop-turn : goal.invariant-loop-turn
invariant-loop-turn l = IsFound (length (view_lists l.lists)) l.found.marks.items l.found.order.items
    × IsWalk (view_lists l.lists) l.starts l.turn l.found.order.items
