use Rattle.juniper_syntax.specs.DocumentView.{view_argument}
use Rattle.juniper_written.proofs.Lists.{IsFlatSoFar}
use Rattle.juniper_explain.specs.Explanations.{view_explanations}
use Rattle.juniper_explain.specs.Nodes.{repeated_within}
use Rattle.juniper_explain.proofs.input_fields.explain_in_given.Given as goal

abbrev pub invariant-loop-argument : goal.invariant-loop-argument
invariant-loop-argument g l =
    let shown = g.S.ScalarValue.shown in
    IsFlatSoFar (λ a. repeated_within (view_argument shown a).value.item) l.argument-items (view_explanations l.initial.explanations.items) l.argument-index
    (view_explanations l.explanations.items)
