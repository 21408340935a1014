use Rattle.std.proofs.Common.{◌≡◌, ◌⊎◌, Some, ℕ}
use Rattle.std.specs.List.{slice_get}
use Rattle.graphql_spec.specs.Laws.{In}
use Rattle.juniper_merging.proofs.uniting.put_each.Given as goal

abbrev pub invariant-loop-place : goal.invariant-loop-place
invariant-loop-place l = (i n : ℕ) → slice_get l.numbers.items i ≡ Some (Some n) → (slice_get l.fn.numbers.items i ≡ Some (Some n)) ⊎ (In i l.places × (n ≡
    l.number))
