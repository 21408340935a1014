use Rattle.std.proofs.Common.{map, drop}
use Rattle.juniper_json.specs.AnswerText.{items_data}
use Rattle.juniper_json.specs.RefusalText.{refusal_data, view_refusal}
use Rattle.juniper_json.proofs.Sending.{Goes}
use Rattle.juniper_json.proofs.refusals.send_refusals.Given as goal

abbrev pub invariant-loop-refusal : goal.invariant-loop-refusal
invariant-loop-refusal g l =
    Goes (items_data refusal_data (map view_refusal l.refusals)) (g.W.Serializer.written l.initial.out)
    (items_data refusal_data (map view_refusal (drop l.refusal-index l.refusals))) (g.W.Serializer.written l.out)
