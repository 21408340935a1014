use Rattle.std.proofs.Common.{◌≡◌, drop}
use Rattle.graphql_spec.specs.Written.{item_repeats}
use Rattle.juniper_syntax.specs.InputView.{view_items, view_fields}
use Rattle.juniper_written.specs.FieldNames.{values_repeat}
use Rattle.juniper_written.proofs.unique_input_field_names.+repeating.Given as goal

-- what is left decides
abbrev pub invariant-items_repeat-loop-item : goal.invariant-items_repeat-loop-item
invariant-items_repeat-loop-item g l =
    let shown = g.S.ScalarValue.shown in
    item_repeats (view_items shown (drop l.item-index l.items)) ≡ item_repeats (view_items shown l.items)

abbrev pub invariant-object_repeats-loop-field : goal.invariant-object_repeats-loop-field
invariant-object_repeats-loop-field g l =
    let shown = g.S.ScalarValue.shown in
    values_repeat (view_fields shown (drop l.field-index l.fields)) ≡ values_repeat (view_fields shown l.fields)
