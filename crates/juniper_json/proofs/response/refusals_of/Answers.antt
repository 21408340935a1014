use Rattle.std.proofs.Common.{◌∙◌, map, ap, sym}
use Rattle.std.proofs.lemmas.Result.{IfOk-weaker}
use Rattle.std.proofs.lemmas.Simd.{map-map}
use Rattle.juniper_syntax.specs.RuleView.{view_rule_error}
use Rattle.juniper_syntax.specs.declared.rule.RuleError.{RuleError}
use Rattle.juniper.specs.RequestErrors.{view_request_error}
use Rattle.juniper_json.specs.Refusals.{refusals_of, rule_refusal}
use Rattle.juniper_json.proofs.response.refusals_of.Goals as goal

pub returns-in-ValidationError : goal.returns-in-ValidationError
returns-in-ValidationError c = IfOk-weaker c.of_rules.result _ _ (λ made e. e
    ∙ (ap (map (λ (x : RuleError). rule_refusal (view_rule_error x))) c.as_slice.ensures.value
    ∙ (sym (map-map rule_refusal view_rule_error c.in-ValidationError.errors.items)
    ∙ ap (λ x. refusals_of (view_request_error x)) (sym c.in-ValidationError.is)))) c.of_rules.ensures
