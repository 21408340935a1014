use Rattle.std.specs.Prelude.{◌-◌, ◌^◌}
use Rattle.graphql_spec.specs.Documents.{Document, fragments}
use Rattle.juniper_written.specs.SpreadsView.{AreFragmentsOf}
use Rattle.juniper_written.specs.Kept.{kept_at, weight_at}
use Rattle.juniper_written.specs.Measures.{Measure, number}
use Rattle.juniper_written.proofs.Adding.{IsSoFar}
use Rattle.juniper_written.proofs.counting.+counting.Given as goal

abbrev pub invariant-counts_of-loop-selection : goal.invariant-counts_of-loop-selection
invariant-counts_of-loop-selection g l = (m : Measure) (d : Document) → AreFragmentsOf g.S.ScalarValue.shown l.fragments d →
    IsSoFar g.S.ScalarValue.shown m (2 ^ 64 - 1) (weight_at (2 ^ 64 - 1) (fragments d) (kept_at m l.kept)) l.selections l.selection-index (number m l.counts)
