use Rattle.std.specs.Prelude.{◌-◌, ◌^◌, min}
use Rattle.graphql_spec.specs.Documents.{Document, fragments}
use Rattle.juniper_syntax.specs.DocumentView.{view_definition}
use Rattle.juniper_written.specs.SpreadsView.{AreFragmentsOf}
use Rattle.juniper_written.specs.Kept.{kept_at, number_by, weight_at}
use Rattle.juniper_written.specs.Measures.{Measure, number}
use Rattle.juniper_written.proofs.Operations.{AreCountedTo}
use Rattle.juniper_written.proofs.counting.count_operations.Given as goal

abbrev pub invariant-loop-definition : goal.invariant-loop-definition
invariant-loop-definition g l = (m : Measure) (d : Document) → AreFragmentsOf g.S.ScalarValue.shown l.fragments d →
    AreCountedTo (view_definition g.S.ScalarValue.shown) l.document
    (λ o. min (2 ^ 64 - 1) (number_by m (weight_at (2 ^ 64 - 1) (fragments d) (kept_at m l.kept)) o.selections)) (number m) l.definition-index l.counts.items
