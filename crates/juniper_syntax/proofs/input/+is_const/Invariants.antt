use Rattle.std.proofs.Common.{◌≡◌, drop}
use Rattle.graphql_spec.specs.Inputs.{items_are_const, fields_are_const}
use Rattle.juniper_syntax.specs.InputView.{view_items, view_fields}
use Rattle.juniper_syntax.proofs.input.+is_const.Given as goal

-- what is left decides
abbrev pub invariant-fields_are_const-loop-field : goal.invariant-fields_are_const-loop-field
invariant-fields_are_const-loop-field g l =
    let shown = g.S.ScalarValue.shown in
    fields_are_const (view_fields shown (drop l.field-index l.fields)) ≡ fields_are_const (view_fields shown l.fields)

abbrev pub invariant-items_are_const-loop-item : goal.invariant-items_are_const-loop-item
invariant-items_are_const-loop-item g l =
    let shown = g.S.ScalarValue.shown in
    items_are_const (view_items shown (drop l.item-index l.items)) ≡ items_are_const (view_items shown l.items)
