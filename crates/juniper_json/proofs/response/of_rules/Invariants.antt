use Rattle.std.proofs.Common.{◌≡◌, map, take}
use Rattle.juniper_syntax.specs.RuleView.{view_rule_error}
use Rattle.juniper_syntax.specs.declared.rule.RuleError.{RuleError}
use Rattle.juniper_json.specs.RefusalText.{view_refusal}
use Rattle.juniper_json.specs.Refusals.{rule_refusal}
use Rattle.juniper_json.proofs.response.of_rules.Given as goal

abbrev pub invariant-loop-error : goal.invariant-loop-error
invariant-loop-error l =
    map view_refusal l.refusals.items ≡ map (λ (e : RuleError). rule_refusal (view_rule_error e)) (take l.error-index l.errors)
