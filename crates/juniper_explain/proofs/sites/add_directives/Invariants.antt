use Rattle.graphql_spec.specs.Placed.{directive_named}
use Rattle.juniper_syntax.specs.DocumentView.{view_directive}
use Rattle.juniper_explain.specs.SitesView.{view_sites}
use Rattle.juniper_explain.specs.Sites.{directive_site}
use Rattle.juniper_written.proofs.Lists.{IsFlatSoFar}
use Rattle.juniper_explain.proofs.sites.add_directives.Given as goal

abbrev pub invariant-loop-index : goal.invariant-loop-index
invariant-loop-index g l =
    let shown = g.S.ScalarValue.shown in
    IsFlatSoFar (λ x. directive_site (view_directive shown x.now) (directive_named (view_directive shown x.now).name.item)) l.directives.items
    (view_sites shown l.initial.sites.items) l.index (view_sites shown l.sites.items)
