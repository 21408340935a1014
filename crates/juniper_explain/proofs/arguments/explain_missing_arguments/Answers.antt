use Rattle.std.proofs.Common.{refl, ap, ◌∙◌, ◌++◌}
use Rattle.std.specs.List.{flat_map}
use Rattle.std.specs.List.{flat_map}
use Rattle.juniper_explain.specs.SitesView.{view_site}
use Rattle.juniper_explain.specs.Explanations.{view_explanations}
use Rattle.juniper_explain.specs.Nodes.{missing_argument, missing_arguments}
use Rattle.juniper_written.proofs.Lists.{flat-all, flat-next, flat-seen}
use Rattle.juniper_explain.proofs.arguments.explain_missing_arguments.Goals as goal

pub loop-site-init : goal.loop-site-init
loop-site-init g c = refl

pub loop-site-preserved : goal.loop-site-preserved
unfolding missing_arguments
loop-site-preserved g c =
    let shown = g.S.ScalarValue.shown in
    flat-next (λ x. flat_map (missing_argument (view_site shown x)) (view_site shown x).declared) c.args.sites.now
    (view_explanations c.args.explanations.now.items) c.loop-site.site-index c.site-item.result
    (view_explanations c.loop-site.explanations.items) (view_explanations c.explain_missing_at.new.explanations.items) c.loop-site-test.true c.site-item.is
    c.loop-site.invariant
    c.in_ok-explain_missing_at.ensures

pub returns : goal.returns
unfolding missing_arguments
returns g c =
    let shown = g.S.ScalarValue.shown in
    let old = view_explanations c.args.explanations.now.items in
    flat-all (λ x. flat_map (missing_argument (view_site shown x)) (view_site shown x).declared) c.args.sites.now old c.loop-site.site-index
    (view_explanations c.loop-site.explanations.items) c.loop-site-test.false c.loop-site.invariant
    ∙ ap (λ l. old ++ l) (flat-seen (view_site shown) (λ y. flat_map (missing_argument y) y.declared) c.args.sites.now)
