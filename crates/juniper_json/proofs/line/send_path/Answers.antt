use Rattle.std.proofs.Common.{arith, refl}
use Rattle.std.proofs.lemmas.Result.{on_ok_weaker}
use Rattle.juniper_conversions.specs.SegmentView.{view_segment}
use Rattle.juniper_json.specs.AnswerText.{step_data}
use Rattle.juniper_json.proofs.Sending.{list_sent}
use Rattle.juniper_json.proofs.line.send_path.Goals as goal

pub returns : goal.returns
returns g c = on_ok_weaker c.end_seq.result (λ e. list_sent step_data view_segment c.args.path.now c.loop-segment.segment-index _ _ _ _ _ refl
    (omega arith) c.in_ok-begin_seq.ensures c.loop-segment.invariant e) c.end_seq.ensures
