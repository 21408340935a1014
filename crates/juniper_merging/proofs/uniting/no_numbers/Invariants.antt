use Rattle.std.proofs.Common.{◌≡◌, None, Option, Some, ℕ}
use Rattle.std.specs.List.{slice_get}
use Rattle.juniper_merging.proofs.uniting.no_numbers.Given as goal

abbrev pub invariant-loop-place : goal.invariant-loop-place
invariant-loop-place l = (i : ℕ) (o : Option ℕ) → slice_get l.numbers.items i ≡ Some o → o ≡ None
