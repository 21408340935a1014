use Rattle.std.proofs.Common.{◌≡◌, ◌++◌, map}
use Rattle.juniper_syntax.proofs.input.InputValue.object.Given as goal

-- what is placed, and then what is left, are all
abbrev pub invariant-loop-name : goal.invariant-loop-name
invariant-loop-name g l = map (λ f. (f.0.item, f.1.item)) l.placed.items ++ l.name-iterator.rest.items ≡ l.fn.fields.items
