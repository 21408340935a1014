use Rattle.std.proofs.Common.{◌≡◌, ap, ◌∙◌, string_bytes}
use Rattle.graphql_spec.specs.Constants.{meaning}
use Rattle.juniper_syntax.specs.InputView.{view_input}
use Rattle.juniper_conversions.specs.Messages.{message_alone}
use Rattle.juniper_conversions.specs.Conversions.{refusal_text}
use Rattle.juniper_conversions.proofs.Meanings.{means-Null, means-Scalar, means-Enum, means-Variable, means-List, means-Object}
use Rattle.juniper_conversions.proofs.convert.refused.Goals as goal
use Rattle.juniper_conversions.proofs.convert.refused.Goals.{in-Null+in_ok-message-in-Null, in-Scalar+in_ok-message-in-Scalar, in-Enum+in_ok-message-in-Enum}
use Rattle.juniper_conversions.proofs.convert.refused.Goals.{in-Variable+in_ok-message-in-Variable, in-List+in_ok-message-in-List}
use Rattle.juniper_conversions.proofs.convert.refused.Goals.{in-Object+in_ok-message-in-Object}

pub returns : goal.returns
returns g c =
    let shown = g.S.ScalarValue.shown in
    let said : string_bytes c.match-value.message ≡ refusal_text c.args.kind.now (meaning (view_input shown c.args.value.now)) = elim c.match-value.branch [
      | in-Null+in_ok-message-in-Null w ↦ rw (w.message-is, w.in-Null.is, means-Null shown) w.in_ok-message-in-Null.ensures.ok
      | in-Scalar+in_ok-message-in-Scalar w ↦ rw (w.message-is, w.in-Scalar.is, means-Scalar shown w.in-Scalar.field-0) w.in_ok-message-in-Scalar.ensures
      | in-Enum+in_ok-message-in-Enum w ↦ rw (w.message-is, w.in-Enum.is, means-Enum shown w.in-Enum.field-0) w.in_ok-message-in-Enum.ensures.ok
      | in-Variable+in_ok-message-in-Variable w ↦ rw (w.message-is, w.in-Variable.is, means-Variable shown w.in-Variable.field-0)
          w.in_ok-message-in-Variable.ensures.ok
      | in-List+in_ok-message-in-List w ↦ rw (w.message-is, w.in-List.is, means-List shown w.in-List.field-0) w.in_ok-message-in-List.ensures.ok
      | in-Object+in_ok-message-in-Object w ↦ rw (w.message-is, w.in-Object.is, means-Object shown w.in-Object.field-0) w.in_ok-message-in-Object.ensures.ok
    ] in
    c.error_of_message.ensures ∙ ap message_alone said
