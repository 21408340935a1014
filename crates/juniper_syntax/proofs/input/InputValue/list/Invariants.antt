use Rattle.std.proofs.Common.{◌≡◌, ◌++◌, map}
use Rattle.juniper_syntax.proofs.input.InputValue.list.Given as goal

-- what is placed, and then what is left, are all
abbrev pub invariant-loop-item : goal.invariant-loop-item
invariant-loop-item g l = map (λ x. x.item) l.placed.items ++ l.item-iterator.rest.items ≡ l.fn.items.items
