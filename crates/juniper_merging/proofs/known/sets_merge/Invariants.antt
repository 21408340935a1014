use Rattle.std.proofs.Common.{◌≡◌, ℕ, Some, true, take}
use Rattle.std.specs.List.{slice_get}
use Rattle.graphql_spec.specs.Laws.{In}
use Rattle.juniper_merging.specs.declared.known.Judged.{Judged}
use Rattle.juniper_merging.proofs.known.sets_merge.Given as goal

-- whether each before this place is put into a set that merges
abbrev pub invariant-loop-set : goal.invariant-loop-set
invariant-loop-set l = l.merge ≡ true → (set : ℕ) → In set (take l.set-index l.sets) → (j : Judged) × (slice_get l.known.judged.items set ≡ Some j) ×
    (j.merges ≡ true)
