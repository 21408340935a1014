use Rattle.juniper_meta.specs.MetaView.{view_argument}
use Rattle.juniper_syntax.specs.InputView.{view_fields}
use Rattle.juniper_written.proofs.Lists.{IsFlatSoFar}
use Rattle.juniper_explain.specs.Reasons.{missing_field}
use Rattle.juniper_explain.specs.ReasonsView.{view_messages}
use Rattle.juniper_explain.proofs.value_parts.add_missing.Given as goal

abbrev pub invariant-loop-field : goal.invariant-loop-field
invariant-loop-field g l =
    let shown = g.S.ScalarValue.shown in
    IsFlatSoFar (λ x. missing_field (view_fields shown l.fields) l.type_name l.path (view_argument shown x)) l.declared
    (view_messages l.initial.messages.items) l.field-index (view_messages l.messages.items)
