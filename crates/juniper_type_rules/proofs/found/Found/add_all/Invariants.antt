use Rattle.std.proofs.Common.{ℕ, take}
use Rattle.juniper_type_rules.specs.Numbers.{Adds, IsFound}
use Rattle.juniper_type_rules.proofs.found.Found.add_all.Given as goal

abbrev pub invariant-loop-number : goal.invariant-loop-number
invariant-loop-number l = (n : ℕ) → IsFound n l.fn.self.marks.items l.fn.self.order.items → IsFound n l.self.marks.items l.self.order.items
    × Adds n (take l.number-index l.numbers) l.fn.self.order.items l.self.order.items
