use Rattle.std.proofs.Common.{map}
use Rattle.std.specs.Vec.Iter.{into_iter_items}
use Rattle.juniper_json.specs.RefusalText.{view_refusal}
use Rattle.juniper_explain.proofs.Moved.{AreMoved}
use Rattle.juniper_syntax.specs.RuleView.{view_rule_error}
use Rattle.juniper_endpoint.proofs.Explaining.{value_told}
use Rattle.juniper_endpoint.proofs.values.refusals_of.Given as goal

-- what is written goes before what is left
abbrev pub invariant-loop-explanation : goal.invariant-loop-explanation
invariant-loop-explanation l =
    let told = value_told (map view_rule_error l.errors) in
    AreMoved told view_refusal (map told (into_iter_items l.initial.explanation-iterator)) l.refusals.items (into_iter_items l.explanation-iterator)
