use Rattle.std.proofs.Common.{refl, ap, arith, length, ◌<◌, ◌≤◌, ◌∙◌, ◌++◌}
use Rattle.juniper_syntax.specs.DocumentView.{view_word}
use Rattle.juniper_explain.specs.Explanations.{view_explanations}
use Rattle.juniper_explain.specs.Nodes.{unknown_spread}
use Rattle.juniper_written.proofs.Lists.{flat-all, flat-next, flat-seen}
use Rattle.juniper_explain.proofs.spreads.explain_spreads.Goals as goal

pub loop-index-init : goal.loop-index-init
loop-index-init g c = λ d are. refl

pub loop-index-preserved : goal.loop-index-preserved
loop-index-preserved g c = λ d are.
    let below : c.loop-index.index < length c.args.spreads.now.items = omega (arith, c.loop-index-test.true, c.len-index-end.ensures, c.args.spreads.now.ok.0)
    in
    flat-next (λ x. unknown_spread d (view_word x)) c.args.spreads.now.items (view_explanations c.args.explanations.now.items) c.loop-index.index
    c.index.result.now
    (view_explanations c.loop-index.explanations.items) (view_explanations c.explain_spread.new.explanations.items) below c.index.ensures
    (c.loop-index.invariant d are)
    (c.in_ok-explain_spread.ensures d are)

pub returns : goal.returns
returns g c = λ d are.
    let past : length c.args.spreads.now.items ≤ c.loop-index.index = omega (arith, c.loop-index-test.false, c.len-index-end.ensures, c.args.spreads.now.ok.0)
    in
    let old = view_explanations c.args.explanations.now.items in
    flat-all (λ x. unknown_spread d (view_word x)) c.args.spreads.now.items old c.loop-index.index (view_explanations c.loop-index.explanations.items) past
    (c.loop-index.invariant d are)
    ∙ ap (λ l. old ++ l) (flat-seen view_word (λ y. unknown_spread d y) c.args.spreads.now.items)
