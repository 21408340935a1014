use Rattle.std.proofs.Common.{refl, ap, map, ◌∙◌, ◌++◌}
use Rattle.std.specs.List.{flat_map}
use Rattle.juniper_type_rules.specs.PlacedView.{view_placed}
use Rattle.juniper_explain.specs.SitesView.{view_sites}
use Rattle.juniper_explain.specs.Sites.{field_site}
use Rattle.juniper_written.proofs.Lists.{flat-all, flat-next, flat-seen}
use Rattle.juniper_explain.proofs.sites.add_fields.Goals as goal

pub loop-placed-init : goal.loop-placed-init
loop-placed-init g c = refl

pub loop-placed-preserved : goal.loop-placed-preserved
loop-placed-preserved g c =
    let shown = g.S.ScalarValue.shown in
    flat-next (λ x. field_site (view_placed shown x) (view_placed shown x).declared) c.deref-placed-items.result.now
    (view_sites shown c.args.sites.now.items) c.loop-placed.placed-index c.placed-item.result
    (view_sites shown c.loop-placed.sites.items) (view_sites shown c.add_field.new.sites.items) c.loop-placed-test.true c.placed-item.is
    c.loop-placed.invariant
    c.in_ok-add_field.ensures

pub returns : goal.returns
returns g c =
    let shown = g.S.ScalarValue.shown in
    let old = view_sites shown c.args.sites.now.items in
    flat-all (λ x. field_site (view_placed shown x) (view_placed shown x).declared) c.deref-placed-items.result.now old c.loop-placed.placed-index
    (view_sites shown c.loop-placed.sites.items) c.loop-placed-test.false c.loop-placed.invariant
    ∙ ap (λ l. old ++ l) (flat-seen (view_placed shown) (λ y. field_site y y.declared) c.deref-placed-items.result.now ∙ ap
    (λ l. flat_map (λ y. field_site y y.declared) (map (view_placed shown) l)) c.deref-placed-items.ensures.value)
