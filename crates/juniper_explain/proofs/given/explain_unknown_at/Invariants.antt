use Rattle.juniper_syntax.specs.DocumentView.{view_argument}
use Rattle.juniper_explain.specs.SitesView.{view_site}
use Rattle.juniper_explain.specs.Explanations.{view_explanations}
use Rattle.juniper_explain.specs.Nodes.{unknown_argument}
use Rattle.juniper_written.proofs.Lists.{IsFlatSoFar}
use Rattle.juniper_explain.proofs.given.explain_unknown_at.Given as goal

abbrev pub invariant-loop-argument : goal.invariant-loop-argument
invariant-loop-argument g l =
    let shown = g.S.ScalarValue.shown in
    IsFlatSoFar (λ x. unknown_argument (view_site shown l.site) (view_argument shown x)) l.argument-items (view_explanations l.initial.explanations.items)
    l.argument-index (view_explanations l.explanations.items)
