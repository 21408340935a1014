use Rattle.std.proofs.Common.{map, drop}
use Rattle.juniper_conversions.specs.SegmentView.{view_segment}
use Rattle.juniper_json.specs.AnswerText.{items_data, step_data}
use Rattle.juniper_json.proofs.Sending.{Goes}
use Rattle.juniper_json.proofs.line.send_path.Given as goal

abbrev pub invariant-loop-segment : goal.invariant-loop-segment
invariant-loop-segment g l =
    Goes (items_data step_data (map view_segment l.path)) (g.W.Serializer.written l.initial.out)
    (items_data step_data (map view_segment (drop l.segment-index l.path))) (g.W.Serializer.written l.out)
