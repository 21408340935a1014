use Rattle.std.proofs.Common.{append-nil, refl, ap, sym, map, ◌∙◌, ◌++◌}
use Rattle.std.specs.List.{flat_map}
use Rattle.juniper_schema.specs.SchemaView.{view_schema}
use Rattle.graphql_spec.specs.Fields.{declaration_in}
use Rattle.graphql_spec.specs.Documents.{written}
use Rattle.juniper_syntax.specs.DocumentView.{view_argument, view_arguments}
use Rattle.juniper_explain.specs.SitesView.{view_site}
use Rattle.juniper_explain.specs.Explanations.{view_explanations}
use Rattle.juniper_explain.specs.Nodes.{wrong_argument}
use Rattle.juniper_written.proofs.Lists.{flat-all, flat-next, flat-seen}
use Rattle.juniper_explain.proofs.given.explain_wrong_at.Goals as goal

pub loop-argument-init : goal.loop-argument-init
loop-argument-init g c = refl

pub loop-argument-preserved : goal.loop-argument-preserved
unfolding written
loop-argument-preserved g c =
    let shown = g.S.ScalarValue.shown in
    let s = view_schema shown c.args.schema.now in
    flat-next (λ x. wrong_argument s (view_site shown c.args.site.now) (view_argument shown x)
    (declaration_in (view_site shown c.args.site.now).declared (view_argument shown x).name.item)) c.deref-argument-items.result.now
    (view_explanations c.args.explanations.now.items) c.loop-argument.argument-index c.argument-item.result
    (view_explanations c.loop-argument.explanations.items) (view_explanations c.explain_wrong_argument.new.explanations.items) c.loop-argument-test.true
    c.argument-item.is c.loop-argument.invariant
    c.in_ok-explain_wrong_argument-in-Some.ensures

pub returns-after-loop-argument : goal.returns-after-loop-argument
unfolding written
returns-after-loop-argument g c =
    let shown = g.S.ScalarValue.shown in
    let s = view_schema shown c.args.schema.now in
    let old = view_explanations c.args.explanations.now.items in
    flat-all (λ x. wrong_argument s (view_site shown c.args.site.now) (view_argument shown x)
    (declaration_in (view_site shown c.args.site.now).declared (view_argument shown x).name.item)) c.deref-argument-items.result.now old
    c.loop-argument.argument-index (view_explanations c.loop-argument.explanations.items) c.loop-argument-test.false c.loop-argument.invariant
    ∙ ap (λ l. old ++ l) (flat-seen (view_argument shown) (λ y. wrong_argument s (view_site shown c.args.site.now) y
    (declaration_in (view_site shown c.args.site.now).declared y.name.item)) c.deref-argument-items.result.now ∙
    (ap (λ l. flat_map (λ y. wrong_argument s (view_site shown c.args.site.now) y (declaration_in (view_site shown c.args.site.now).declared y.name.item))
    (map (view_argument shown) l)) c.deref-argument-items.ensures.value ∙ ap (λ o. flat_map
    (λ y. wrong_argument s (view_site shown c.args.site.now) y (declaration_in (view_site shown c.args.site.now).declared y.name.item))
    (written (view_arguments shown o))) (sym c.in-Some.is)))

pub returns-in-None : goal.returns-in-None
unfolding written
returns-in-None g c =
    let shown = g.S.ScalarValue.shown in
    let s = view_schema shown c.args.schema.now in
    let old = view_explanations c.args.explanations.now.items in
    sym (append-nil old) ∙ ap (λ o. old ++ flat_map (λ y. wrong_argument s (view_site shown c.args.site.now) y
    (declaration_in (view_site shown c.args.site.now).declared y.name.item)) (written (view_arguments shown o))) (sym c.in-None.is)
