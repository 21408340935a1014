use Rattle.juniper_explain.specs.Explanations.{view_explanations}
use Rattle.juniper_written.proofs.Lists.{IsFlatSoFar}
use Rattle.juniper_explain.proofs.InputFields.{within_item, within_field}
use Rattle.juniper_explain.proofs.input_fields.+repeating.Given as goal

abbrev pub invariant-explain_in_items-loop-item : goal.invariant-explain_in_items-loop-item
invariant-explain_in_items-loop-item g l =
    IsFlatSoFar (within_item g.S.ScalarValue.shown) l.items (view_explanations l.initial.explanations.items) l.item-index
    (view_explanations l.explanations.items)

abbrev pub invariant-explain_in_fields-loop-field : goal.invariant-explain_in_fields-loop-field
invariant-explain_in_fields-loop-field g l =
    IsFlatSoFar (within_field g.S.ScalarValue.shown) l.fields (view_explanations l.initial.explanations.items) l.field-index
    (view_explanations l.explanations.items)
