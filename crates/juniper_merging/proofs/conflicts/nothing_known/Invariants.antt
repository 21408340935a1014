use Rattle.std.proofs.Common.{◌≡◌, ℕ, None, Option, Some}
use Rattle.std.specs.List.{slice_get}
use Rattle.juniper_merging.specs.declared.clash.Clash.{Clash}
use Rattle.juniper_merging.proofs.conflicts.nothing_known.Given as goal

-- nothing is known
abbrev pub invariant-loop-place : goal.invariant-loop-place
invariant-loop-place l = (p : ℕ) (o : Option Clash) → slice_get l.row.items p ≡ Some o → o ≡ None
