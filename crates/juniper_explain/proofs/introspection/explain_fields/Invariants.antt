use Rattle.juniper_syntax.specs.DocumentView.{view_field}
use Rattle.juniper_explain.specs.Explanations.{view_explanations}
use Rattle.juniper_explain.specs.Nodes.{introspection_field}
use Rattle.juniper_written.proofs.Lists.{IsFlatSoFar}
use Rattle.juniper_explain.proofs.introspection.explain_fields.Given as goal

abbrev pub invariant-loop-index : goal.invariant-loop-index
invariant-loop-index g l =
    let shown = g.S.ScalarValue.shown in
    IsFlatSoFar (λ x. introspection_field (view_field shown x.now)) l.fields.items (view_explanations l.initial.explanations.items) l.index
    (view_explanations l.explanations.items)
