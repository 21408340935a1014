use Rattle.std.specs.Prelude.{codes}
use Rattle.std.proofs.lemmas.Result.{on_ok_weaker}
use Rattle.juniper_json.specs.RefusalText.{rule_data}
use Rattle.juniper_json.proofs.Refused.{text_first}
use Rattle.juniper_json.proofs.refusals.send_rule.Goals as goal

pub returns : goal.returns
unfolding rule_data
returns g c = on_ok_weaker c.end_with_number.result (λ e. text_first (codes "rule") _ _ _ _ _ _ _ _ _ c.told_members.ensures c.as_str.ensures.value
    c.in_ok-begin_map.ensures c.in_ok-key.ensures c.in_ok-str.ensures e) c.end_with_number.ensures
