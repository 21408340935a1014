use Rattle.std.proofs.Common.{◌≡◌, ℕ, List, Some, length}
use Rattle.std.specs.List.{slice_get}
use Rattle.juniper_merging.specs.MergingGraph.{FieldAt}
use Rattle.juniper_merging.specs.Numbered.{AreTold}
use Rattle.juniper_merging.specs.Questions.{IsJudgedSet}
use Rattle.juniper_merging.specs.Tables.{set_at}
use Rattle.juniper_merging.specs.United.{IsUniting}
use Rattle.juniper_merging.specs.declared.known.Judged.{Judged}
use Rattle.juniper_merging.proofs.known.judged_sets.Given as goal

-- what is known of those before this one
abbrev pub invariant-loop-set : goal.invariant-loop-set
invariant-loop-set l = (length l.judged.items ≡ l.set) × ((vs : List FieldAt) (t : List (List ℕ)) (H : ℕ → List ℕ) → IsUniting vs t H l.uniting →
    AreTold vs H l.placed.numbers.items l.within → (set : ℕ) (j : Judged) → slice_get l.judged.items set ≡ Some j → IsJudgedSet vs (set_at t set) j)
