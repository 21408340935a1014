use Rattle.std.proofs.Common.{◌∙◌, sym}
use Rattle.juniper_syntax.specs.Positions.{view_position}
use Rattle.juniper_syntax.specs.RuleView.{view_rule_error}
use Rattle.juniper_json.proofs.Refused.{first_place, rule_shown}
use Rattle.juniper_json.proofs.response.of_rule.Goals as goal

pub returns : goal.returns
returns c = sym (rule_shown (view_rule_error c.args.error.now) _ _ (c.in_ok-from_str.ensures.ok ∙ c.message.ensures)
    (first_place view_position c.locations.result.now _ _ c.locations.ensures (c.copied.ensures ∙ c.first.ensures.value)))
