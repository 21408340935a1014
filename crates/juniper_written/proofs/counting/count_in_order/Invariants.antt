use Rattle.std.specs.Prelude.{◌-◌, ◌^◌, ◌≡◌, None, map}
use Rattle.graphql_spec.specs.Shown.{Name}
use Rattle.graphql_spec.specs.Documents.{Document, fragments}
use Rattle.juniper_syntax.specs.DocumentView.{view_fragment}
use Rattle.juniper_written.specs.Order.{IsInOrder}
use Rattle.juniper_written.specs.SpreadsView.{AreFragmentsOf}
use Rattle.juniper_written.specs.Kept.{kept_at}
use Rattle.juniper_written.specs.Measures.{Measure}
use Rattle.juniper_written.proofs.Turns.{IsCountedTo}
use Rattle.juniper_written.proofs.counting.count_in_order.Given as goal

abbrev pub invariant-loop-index : goal.invariant-loop-index
invariant-loop-index g l = (m : Measure) (d : Document) → AreFragmentsOf g.S.ScalarValue.shown l.fragments d →
    IsInOrder (fragments d) (map (λ f. view_fragment g.S.ScalarValue.shown f.now) l.order.items) → ((k : Name) → kept_at m l.initial.kept k ≡ None) →
    IsCountedTo m (2 ^ 64 - 1) (fragments d) (λ f. view_fragment g.S.ScalarValue.shown f.now) l.order.items (kept_at m l.kept) l.index
