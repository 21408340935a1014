use Rattle.std.proofs.Common.{◌∙◌, ◌+◌, ◌++◌, ap, drop, sym, refl}
use Rattle.juniper_words.proofs.NodesFrom.{ended, nodes_from, passed_over, taken}
use Rattle.juniper_words.proofs.node_lists.nodes_where.Goals.{then-passes+in_ok-push, else-passes}
use Rattle.juniper_words.proofs.node_lists.nodes_where.Goals as goal

pub loop-place-preserved : goal.loop-place-preserved
loop-place-preserved g c at test nodes tests =
    let answered = tests _ _ (record { shown = _; shows = refl; says = record { met = c.passes.ensures } }) in
    let so_far = c.loop-place.invariant at test nodes tests in
    let left = nodes_from at test (c.loop-place.place + 1) (drop (c.loop-place.place + 1) c.args.entries.now) in
    elim c.if-passes.branch [
      | then-passes+in_ok-push w ↦ ap (λ ns. ns.items ++ left) w.nodes-is ∙ ap (λ ns. ns ++ left) w.in_ok-push.ensures.items
          ∙ taken at test _ _ _ _ _ _ c.loop-place-test.true c.index-entries-place.is (sym w.if-passes.true ∙ answered)
          (nodes _ _ c.loop-place-test.true (record { met = w.node.ensures })) so_far
      | else-passes w ↦ ap (λ ns. ns.items ++ left) w.nodes-is
          ∙ passed_over at test _ _ _ _ _ c.loop-place-test.true c.index-entries-place.is (sym w.if-passes.false ∙ answered) so_far
    ]

pub returns : goal.returns
returns g c at test nodes tests = ended at test _ _ _ _ c.loop-place-test.false (c.loop-place.invariant at test nodes tests)
