use Rattle.std.proofs.Common.{ℕ, ◌+◌, ◌-◌, ◌^◌, min, ap, subst, sym, ◌∙◌}
use Rattle.graphql_spec.specs.Documents.{Operation, fragments}
use Rattle.juniper_syntax.specs.DocumentView.{view_definition, view_fragment, view_operation, view_selections}
use Rattle.juniper_written.specs.Kept.{kept_at, number_by, weight_at}
use Rattle.juniper_written.specs.Measures.{number}
use Rattle.juniper_written.proofs.Operations.{AreCountedTo, counted-to-end, fragment-next, operation-next}
use Rattle.juniper_written.proofs.counting.count_operations.Goals as goal
use Rattle.juniper_written.proofs.counting.count_operations.Goals.{in-Operation+in_ok-push-in-Operation, in-Fragment}

pub loop-definition-preserved : goal.loop-definition-preserved
loop-definition-preserved g c = λ m d are.
    let shown = g.S.ScalarValue.shown in
    let at = weight_at (2 ^ 64 - 1) (fragments d) (kept_at m c.args.kept.now) in
    let value : Operation → ℕ = λ o. min (2 ^ 64 - 1) (number_by m at o.selections) in
    let view = view_definition shown in
    let ds = c.args.document.now in
    let index = c.loop-definition.definition-index in
    let so_far = c.loop-definition.invariant m d are in
    elim c.match-definition.branch [
      | in-Operation+in_ok-push-in-Operation w ↦
          rw (w.counts-is) (subst (AreCountedTo view ds value (number m) (index + 1)) (sym w.in_ok-push-in-Operation.ensures.items)
          (operation-next view ds value (number m) index c.definition-item.result (view_operation shown w.in-Operation.operation)
          c.loop-definition.counts.items w.counts_of.result c.loop-definition-test.true c.definition-item.is (ap view w.in-Operation.is)
          (w.counts_of.ensures m d are ∙ ap (λ l. min (2 ^ 64 - 1) (number_by m at (view_selections shown l))) w.as_slice.ensures.value) so_far))
      | in-Fragment w ↦
          rw (w.counts-is) (fragment-next view ds value (number m) index c.definition-item.result (view_fragment shown w.in-Fragment.field-0)
          c.loop-definition.counts.items c.loop-definition-test.true c.definition-item.is (ap view w.in-Fragment.is) so_far)
    ]

pub returns : goal.returns
returns g c = λ m d are.
    counted-to-end (view_definition g.S.ScalarValue.shown) c.args.document.now
    (λ o. min (2 ^ 64 - 1) (number_by m (weight_at (2 ^ 64 - 1) (fragments d) (kept_at m c.args.kept.now)) o.selections)) (number m)
    c.loop-definition.definition-index c.loop-definition.counts.items c.loop-definition-test.false (c.loop-definition.invariant m d are)
