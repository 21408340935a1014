use Rattle.std.proofs.Common.{map, drop}
use Rattle.juniper_conversions.specs.ErrorView.{view_listed}
use Rattle.juniper_json.specs.AnswerText.{items_data, error_data}
use Rattle.juniper_json.proofs.Sending.{Goes}
use Rattle.juniper_json.proofs.line.send_errors.Given as goal

abbrev pub invariant-loop-error : goal.invariant-loop-error
invariant-loop-error g l =
    Goes (items_data error_data (map (view_listed g.S.ScalarValue.shown) l.errors)) (g.W.Serializer.written l.initial.out)
    (items_data error_data (map (view_listed g.S.ScalarValue.shown) (drop l.error-index l.errors))) (g.W.Serializer.written l.out)
