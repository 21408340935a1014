use Rattle.std.specs.List.{flat_map}
use Rattle.juniper_explain.specs.SitesView.{view_site}
use Rattle.juniper_explain.specs.Explanations.{view_explanations}
use Rattle.juniper_explain.specs.Nodes.{unknown_argument}
use Rattle.juniper_written.proofs.Lists.{IsFlatSoFar}
use Rattle.juniper_explain.proofs.given.explain_unknown_arguments.Given as goal

abbrev pub invariant-loop-site : goal.invariant-loop-site
invariant-loop-site g l =
    let shown = g.S.ScalarValue.shown in
    IsFlatSoFar (λ x. flat_map (unknown_argument (view_site shown x)) (view_site shown x).given) l.sites (view_explanations l.initial.explanations.items)
    l.site-index (view_explanations l.explanations.items)
