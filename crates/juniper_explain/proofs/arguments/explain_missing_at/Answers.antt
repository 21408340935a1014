use Rattle.std.proofs.Common.{refl, ap, ◌∙◌, ◌++◌}
use Rattle.juniper_meta.specs.MetaView.{view_argument}
use Rattle.juniper_explain.specs.SitesView.{view_site}
use Rattle.juniper_explain.specs.Explanations.{view_explanations}
use Rattle.juniper_explain.specs.Nodes.{missing_argument}
use Rattle.juniper_written.proofs.Lists.{flat-all, flat-next, flat-seen}
use Rattle.juniper_explain.proofs.arguments.explain_missing_at.Goals as goal

pub loop-argument-init : goal.loop-argument-init
loop-argument-init g c = refl

pub loop-argument-preserved : goal.loop-argument-preserved
loop-argument-preserved g c =
    let shown = g.S.ScalarValue.shown in
    flat-next (λ x. missing_argument (view_site shown c.args.site.now) (view_argument shown x)) c.args.site.now.declared.now
    (view_explanations c.args.explanations.now.items) c.loop-argument.argument-index c.argument-item.result
    (view_explanations c.loop-argument.explanations.items) (view_explanations c.explain_missing_argument.new.explanations.items) c.loop-argument-test.true
    c.argument-item.is c.loop-argument.invariant
    c.in_ok-explain_missing_argument.ensures

pub returns : goal.returns
returns g c =
    let shown = g.S.ScalarValue.shown in
    let old = view_explanations c.args.explanations.now.items in
    flat-all (λ x. missing_argument (view_site shown c.args.site.now) (view_argument shown x)) c.args.site.now.declared.now old c.loop-argument.argument-index
    (view_explanations c.loop-argument.explanations.items) c.loop-argument-test.false c.loop-argument.invariant
    ∙ ap (λ l. old ++ l) (flat-seen (view_argument shown) (missing_argument (view_site shown c.args.site.now)) c.args.site.now.declared.now)
