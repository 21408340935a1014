use Rattle.std.proofs.Common.{◌∙◌, ◌++◌, map, ap}
use Rattle.std.specs.Vec.Iter.{into_iter_items}
use Rattle.juniper_intro.proofs.Rooting.{none_left}
use Rattle.juniper_json.specs.RefusalText.{view_refusal}
use Rattle.juniper_explain.proofs.Moved.{moved-all, moved-turn}
use Rattle.juniper_endpoint.proofs.explained.refusals_of.Goals as goal

pub loop-explanation-init : goal.loop-explanation-init
loop-explanation-init g c =
    ap (λ made. map view_refusal made ++ map g.E.Explains.written (into_iter_items c.into_iter-explanation-iterator.result)) c.in_ok-refusals.ensures.items

pub loop-explanation-preserved : goal.loop-explanation-preserved
loop-explanation-preserved g c =
    moved-turn g.E.Explains.written view_refusal _ _ _ _ _ _ _ c.loop-explanation.invariant c.in-Some.ensures.steps.0
    c.in_ok-push.ensures.items c.into_refusal-refusal.ensures

pub returns : goal.returns
returns g c =
    let it = c.loop-explanation.explanation-iterator in
    let out = none_left (into_iter_items it) it.rest.len it.rest.ok.0 c.in-None.ensures.steps.0 in
    moved-all g.E.Explains.written view_refusal _ _ _ out c.loop-explanation.invariant
    ∙ ap (map g.E.Explains.written) c.into_iter-explanation-iterator.ensures.into_iter_gives.0
