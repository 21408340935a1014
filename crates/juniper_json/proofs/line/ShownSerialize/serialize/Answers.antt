use Rattle.std.proofs.lemmas.Result.{on_ok_weaker}
use Rattle.juniper_json.proofs.Members.{answer_sent}
use Rattle.juniper_json.proofs.line.ShownSerialize.serialize.Goals as goal

pub returns : goal.returns
returns g c = on_ok_weaker c.end_with_errors.result (λ e. answer_sent _ _ _ _ _ _ _ _ c.answer_members.ensures c.in_ok-begin_map.ensures c.in_ok-key.ensures
    c.in_ok-send_value.ensures e) c.end_with_errors.ensures
