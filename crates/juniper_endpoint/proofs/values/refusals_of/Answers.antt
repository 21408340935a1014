use Rattle.std.proofs.Common.{◌∙◌, ◌++◌, map, ap}
use Rattle.std.specs.Vec.Iter.{into_iter_items}
use Rattle.juniper_intro.proofs.Rooting.{none_left}
use Rattle.juniper_json.specs.RefusalText.{view_refusal}
use Rattle.juniper_explain.proofs.Moved.{moved-all, moved-turn}
use Rattle.juniper_syntax.specs.RuleView.{view_rule_error}
use Rattle.juniper_endpoint.proofs.Explaining.{value_told}
use Rattle.juniper_endpoint.proofs.values.refusals_of.Goals as goal

pub loop-explanation-init : goal.loop-explanation-init
loop-explanation-init c =
    let told = value_told (map view_rule_error c.args.errors.now) in
    ap (λ made. map view_refusal made ++ map told (into_iter_items c.into_iter-explanation-iterator.result)) c.in_ok-refusals.ensures.items

pub loop-explanation-preserved : goal.loop-explanation-preserved
loop-explanation-preserved c =
    moved-turn (value_told (map view_rule_error c.args.errors.now)) view_refusal _ _ _ _ _ _ _ c.loop-explanation.invariant c.in-Some.ensures.steps.0
    c.in_ok-push.ensures.items c.in_ok-refusal_of.ensures

pub returns : goal.returns
returns c =
    let told = value_told (map view_rule_error c.args.errors.now) in
    let it = c.loop-explanation.explanation-iterator in
    let out = none_left (into_iter_items it) it.rest.len it.rest.ok.0 c.in-None.ensures.steps.0 in
    moved-all told view_refusal _ _ _ out c.loop-explanation.invariant ∙ ap (map told) c.into_iter-explanation-iterator.ensures.into_iter_gives.0
