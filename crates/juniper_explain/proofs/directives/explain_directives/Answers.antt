use Rattle.std.proofs.Common.{refl, ap, arith, length, ◌<◌, ◌≤◌, ◌∙◌, ◌++◌}
use Rattle.juniper_syntax.specs.DocumentView.{view_directive}
use Rattle.juniper_explain.specs.Explanations.{view_explanations}
use Rattle.juniper_explain.specs.Nodes.{unknown_directive}
use Rattle.juniper_written.proofs.Lists.{flat-all, flat-next, flat-seen}
use Rattle.juniper_explain.proofs.directives.explain_directives.Goals as goal

pub loop-index-init : goal.loop-index-init
loop-index-init g c = refl

pub loop-index-preserved : goal.loop-index-preserved
loop-index-preserved g c =
    let shown = g.S.ScalarValue.shown in
    let below : c.loop-index.index < length c.args.directives.now.items = omega (
      arith,
      c.loop-index-test.true,
      c.len-index-end.ensures,
      c.args.directives.now.ok.0,
    ) in
    flat-next (λ x. unknown_directive (view_directive shown x.now)) c.args.directives.now.items (view_explanations c.args.explanations.now.items)
    c.loop-index.index c.index-directive.result.now
    (view_explanations c.loop-index.explanations.items) (view_explanations c.explain_directive.new.explanations.items) below c.index-directive.ensures
    c.loop-index.invariant
    c.in_ok-explain_directive.ensures

pub returns : goal.returns
returns g c =
    let shown = g.S.ScalarValue.shown in
    let past : length c.args.directives.now.items ≤ c.loop-index.index = omega (
      arith,
      c.loop-index-test.false,
      c.len-index-end.ensures,
      c.args.directives.now.ok.0,
    ) in
    let old = view_explanations c.args.explanations.now.items in
    flat-all (λ x. unknown_directive (view_directive shown x.now)) c.args.directives.now.items old c.loop-index.index
    (view_explanations c.loop-index.explanations.items) past c.loop-index.invariant
    ∙ ap (λ l. old ++ l) (flat-seen (λ x. view_directive shown x.now) (unknown_directive) c.args.directives.now.items)
