use Rattle.juniper_rules.proofs.InOrder.{ArePutBehind}
use Rattle.juniper_rules.proofs.given.put_in_order.Given as goal

-- what is left, and what was put in
abbrev pub invariant-loop-name : goal.invariant-loop-name
invariant-loop-name g l = ArePutBehind l.variables.entries l.values l.name-iterator
