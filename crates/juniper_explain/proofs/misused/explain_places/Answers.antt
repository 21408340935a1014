use Rattle.std.proofs.Common.{refl, ap, map, ◌∙◌, ◌++◌}
use Rattle.juniper_syntax.specs.DocumentView.{view_variable}
use Rattle.juniper_written.proofs.Lists.{flat-next, flat-all, flat-seen}
use Rattle.juniper_explain.specs.Explanations.{view_explanations}
use Rattle.juniper_explain.specs.Nodes.{misused_by}
use Rattle.juniper_type_rules.specs.UsesView.{view_place}
use Rattle.juniper_explain.proofs.misused.explain_places.Goals as goal

pub loop-place-init : goal.loop-place-init
loop-place-init g c = refl

pub loop-place-preserved : goal.loop-place-preserved
loop-place-preserved g c =
    let vs = map (view_variable g.S.ScalarValue.shown) c.args.variables.now in
    let l = c.loop-place in
    flat-next (λ p. misused_by vs (view_place p)) c.args.places.now (view_explanations c.args.explanations.now.items) l.place-index c.place-item.result
    (view_explanations l.explanations.items) (view_explanations c.explain_place.new.explanations.items) c.loop-place-test.true c.place-item.is l.invariant
    c.in_ok-explain_place.ensures

pub returns : goal.returns
returns g c =
    let vs = map (view_variable g.S.ScalarValue.shown) c.args.variables.now in
    let old = view_explanations c.args.explanations.now.items in
    flat-all (λ p. misused_by vs (view_place p)) c.args.places.now old c.loop-place.place-index
    (view_explanations c.loop-place.explanations.items) c.loop-place-test.false c.loop-place.invariant
    ∙ ap (λ l. old ++ l) (flat-seen view_place (misused_by vs) c.args.places.now)
