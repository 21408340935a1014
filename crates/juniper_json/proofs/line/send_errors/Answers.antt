use Rattle.std.proofs.Common.{arith, refl}
use Rattle.std.proofs.lemmas.Result.{on_ok_weaker}
use Rattle.juniper_conversions.specs.ErrorView.{view_listed}
use Rattle.juniper_json.specs.AnswerText.{error_data}
use Rattle.juniper_json.proofs.Sending.{list_sent}
use Rattle.juniper_json.proofs.line.send_errors.Goals as goal

pub returns : goal.returns
returns g c = on_ok_weaker c.end_seq.result (λ e. list_sent error_data
    (view_listed g.S.ScalarValue.shown) c.args.errors.now c.loop-error.error-index _ _ _ _ _ refl
    (omega arith) c.in_ok-begin_seq.ensures c.loop-error.invariant e) c.end_seq.ensures
