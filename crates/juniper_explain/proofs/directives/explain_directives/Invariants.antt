use Rattle.juniper_syntax.specs.DocumentView.{view_directive}
use Rattle.juniper_explain.specs.Explanations.{view_explanations}
use Rattle.juniper_explain.specs.Nodes.{unknown_directive}
use Rattle.juniper_written.proofs.Lists.{IsFlatSoFar}
use Rattle.juniper_explain.proofs.directives.explain_directives.Given as goal

abbrev pub invariant-loop-index : goal.invariant-loop-index
invariant-loop-index g l =
    let shown = g.S.ScalarValue.shown in
    IsFlatSoFar (λ x. unknown_directive (view_directive shown x.now)) l.directives.items (view_explanations l.initial.explanations.items) l.index
    (view_explanations l.explanations.items)
