use Rattle.std.proofs.Common.{refl, ap, ◌∙◌, ◌++◌}
use Rattle.std.specs.List.{flat_map}
use Rattle.juniper_schema.specs.SchemaView.{view_schema}
use Rattle.std.specs.List.{flat_map}
use Rattle.graphql_spec.specs.Fields.{declaration_in}
use Rattle.juniper_explain.specs.SitesView.{view_site}
use Rattle.juniper_explain.specs.Explanations.{view_explanations}
use Rattle.juniper_explain.specs.Nodes.{wrong_argument, wrong_arguments}
use Rattle.juniper_written.proofs.Lists.{flat-all, flat-next, flat-seen}
use Rattle.juniper_explain.proofs.given.explain_wrong_arguments.Goals as goal

pub loop-site-init : goal.loop-site-init
loop-site-init g c = refl

pub loop-site-preserved : goal.loop-site-preserved
unfolding wrong_arguments
loop-site-preserved g c =
    let shown = g.S.ScalarValue.shown in
    let s = view_schema shown c.args.schema.now in
    flat-next (λ x. flat_map (λ a. wrong_argument s (view_site shown x) a (declaration_in (view_site shown x).declared a.name.item))
    (view_site shown x).given) c.args.sites.now (view_explanations c.args.explanations.now.items) c.loop-site.site-index c.site-item.result
    (view_explanations c.loop-site.explanations.items) (view_explanations c.explain_wrong_at.new.explanations.items) c.loop-site-test.true c.site-item.is
    c.loop-site.invariant
    c.in_ok-explain_wrong_at.ensures

pub returns : goal.returns
unfolding wrong_arguments
returns g c =
    let shown = g.S.ScalarValue.shown in
    let s = view_schema shown c.args.schema.now in
    let old = view_explanations c.args.explanations.now.items in
    flat-all (λ x. flat_map (λ a. wrong_argument s (view_site shown x) a (declaration_in (view_site shown x).declared a.name.item))
    (view_site shown x).given) c.args.sites.now old c.loop-site.site-index (view_explanations c.loop-site.explanations.items) c.loop-site-test.false
    c.loop-site.invariant
    ∙ ap (λ l. old ++ l) (flat-seen (view_site shown) (λ y. flat_map (λ a. wrong_argument s y a (declaration_in y.declared a.name.item)) y.given)
    c.args.sites.now)
