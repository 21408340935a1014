use Rattle.std.proofs.Common.{◌≡◌, ℕ, Some, false, take}
use Rattle.std.specs.List.{slice_get}
use Rattle.graphql_spec.specs.Laws.{In}
use Rattle.juniper_merging.proofs.loud.has_loud_part.Given as goal

-- those before this place are not loud
abbrev pub invariant-loop-part : goal.invariant-loop-part
invariant-loop-part l = (p : ℕ) → In p (take l.part-index l.parts) → slice_get l.loud p ≡ Some false
