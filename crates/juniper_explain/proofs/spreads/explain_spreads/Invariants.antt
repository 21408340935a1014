use Rattle.graphql_spec.specs.Documents.{Document}
use Rattle.juniper_written.specs.SpreadsView.{AreFragmentsOf}
use Rattle.juniper_syntax.specs.DocumentView.{view_word}
use Rattle.juniper_explain.specs.Explanations.{view_explanations}
use Rattle.juniper_explain.specs.Nodes.{unknown_spread}
use Rattle.juniper_written.proofs.Lists.{IsFlatSoFar}
use Rattle.juniper_explain.proofs.spreads.explain_spreads.Given as goal

abbrev pub invariant-loop-index : goal.invariant-loop-index
invariant-loop-index g l =
    let shown = g.S.ScalarValue.shown in
    (d : Document) → AreFragmentsOf shown l.fragments d → IsFlatSoFar (λ x. unknown_spread d (view_word x)) l.spreads.items
    (view_explanations l.initial.explanations.items) l.index (view_explanations l.explanations.items)
