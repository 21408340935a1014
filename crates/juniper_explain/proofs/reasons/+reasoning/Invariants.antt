use Rattle.juniper_meta.specs.MetaView.{view_type}
use Rattle.juniper_schema.specs.SchemaView.{view_schema}
use Rattle.juniper_written.proofs.Lists.{IsFlatSoFar}
use Rattle.juniper_explain.specs.ReasonsView.{view_messages}
use Rattle.juniper_explain.proofs.ReasonLoops.{IsItemsSoFar, field_reasons}
use Rattle.juniper_explain.proofs.reasons.+reasoning.Given as goal

abbrev pub invariant-explain_items-loop-index : goal.invariant-explain_items-loop-index
invariant-explain_items-loop-index g l =
    let shown = g.S.ScalarValue.shown in
    IsItemsSoFar shown (view_schema shown l.schema) (view_type l.expected) l.path l.items (view_messages l.initial.messages.items) l.index
    (view_messages l.messages.items)

abbrev pub invariant-explain_fields-loop-field : goal.invariant-explain_fields-loop-field
invariant-explain_fields-loop-field g l =
    let shown = g.S.ScalarValue.shown in
    IsFlatSoFar (field_reasons shown (view_schema shown l.schema) (view_type l.expected) l.path) l.fields (view_messages l.initial.messages.items)
    l.field-index (view_messages l.messages.items)
