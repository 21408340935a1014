use Rattle.std.proofs.Common.{arith, refl}
use Rattle.std.proofs.lemmas.Result.{on_ok_weaker}
use Rattle.juniper_json.proofs.Sending.{values_sent, entries_sent}
use Rattle.juniper_json.proofs.line.+send.Goals as goal

pub send_items-returns : goal.send_items-returns
send_items-returns g t c = on_ok_weaker c.end_seq.result (λ e. values_sent g.S.ScalarValue.shown c.args.items.now c.loop-item.item-index _ _ _ _ _ refl
    (omega arith) c.in_ok-begin_seq.ensures c.loop-item.invariant.1 e) c.end_seq.ensures

pub send_entries-returns : goal.send_entries-returns
send_entries-returns g t c = on_ok_weaker c.end_map.result (λ e. entries_sent g.S.ScalarValue.shown _ _ c.field_count.result _ _ _ _ c.field_count.ensures
    c.in-None.ensures.steps.0 c.in_ok-begin_map.ensures c.loop-key.invariant.3 e) c.end_map.ensures
