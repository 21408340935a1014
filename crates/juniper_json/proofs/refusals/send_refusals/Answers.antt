use Rattle.std.proofs.Common.{arith, refl}
use Rattle.std.proofs.lemmas.Result.{on_ok_weaker}
use Rattle.juniper_json.specs.RefusalText.{refusal_data, view_refusal}
use Rattle.juniper_json.proofs.Sending.{list_sent}
use Rattle.juniper_json.proofs.refusals.send_refusals.Goals as goal

pub returns : goal.returns
returns g c = on_ok_weaker c.end_seq.result (λ e. list_sent refusal_data view_refusal c.args.refusals.now c.loop-refusal.refusal-index _ _ _ _ _ refl
    (omega arith) c.in_ok-begin_seq.ensures c.loop-refusal.invariant e) c.end_seq.ensures
