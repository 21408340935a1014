use Rattle.juniper_type_rules.specs.PlacedView.{view_placed}
use Rattle.juniper_explain.specs.SitesView.{view_sites}
use Rattle.juniper_explain.specs.Sites.{field_site}
use Rattle.juniper_written.proofs.Lists.{IsFlatSoFar}
use Rattle.juniper_explain.proofs.sites.add_fields.Given as goal

abbrev pub invariant-loop-placed : goal.invariant-loop-placed
invariant-loop-placed g l =
    let shown = g.S.ScalarValue.shown in
    IsFlatSoFar (λ x. field_site (view_placed shown x) (view_placed shown x).declared) l.placed-items (view_sites shown l.initial.sites.items)
    l.placed-index (view_sites shown l.sites.items)
