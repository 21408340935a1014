use Rattle.juniper_syntax.specs.DocumentView.{view_operation}
use Rattle.juniper_written.proofs.Lists.{IsFlatSoFar}
use Rattle.juniper_explain.specs.Explanations.{view_explanations}
use Rattle.juniper_explain.specs.Nodes.{undefined_name}
use Rattle.juniper_explain.proofs.PartWords.{at_words}
use Rattle.juniper_explain.proofs.undefined.explain_parts.Given as goal

abbrev pub invariant-loop-index : goal.invariant-loop-index
invariant-loop-index g l =
    let shown = g.S.ScalarValue.shown in
    IsFlatSoFar (at_words shown (undefined_name (view_operation shown l.operation))) l.parts.items
    (view_explanations l.initial.explanations.items) l.index (view_explanations l.explanations.items)
