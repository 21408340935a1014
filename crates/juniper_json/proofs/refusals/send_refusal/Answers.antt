use Rattle.std.specs.Prelude.{codes}
use Rattle.std.proofs.lemmas.Result.{on_ok_weaker}
use Rattle.juniper_json.specs.RefusalText.{refusal_data}
use Rattle.juniper_json.proofs.Refused.{text_first}
use Rattle.juniper_json.proofs.refusals.send_refusal.Goals as goal

pub returns : goal.returns
unfolding refusal_data
returns g c = on_ok_weaker c.end_with_place.result (λ e. text_first (codes "message") _ _ _ _ _ _ _ _ _ c.refusal_members.ensures c.as_str.ensures.value
    c.in_ok-begin_map.ensures c.in_ok-key.ensures c.in_ok-str.ensures e) c.end_with_place.ensures
