use Rattle.std.proofs.Common.{◌≡◌, drop}
use Rattle.graphql_spec.specs.Inputs.{const_items, const_fields}
use Rattle.juniper_syntax.specs.InputView.{view_items, view_fields, view_variables}
use Rattle.juniper_syntax.proofs.InputLists.{append_items, append_fields}
use Rattle.juniper_syntax.proofs.input.+into_const.Given as goal

abbrev pub invariant-const_fields-loop-field : goal.invariant-const_fields-loop-field
invariant-const_fields-loop-field g l =
    let shown = g.S.ScalarValue.shown in
    let vars = view_variables shown l.variables in
    append_fields (view_fields shown l.made.items) (const_fields vars (view_fields shown (drop l.field-index l.fields)))
    ≡ const_fields vars (view_fields shown l.fields)

abbrev pub invariant-const_items-loop-item : goal.invariant-const_items-loop-item
invariant-const_items-loop-item g l =
    let shown = g.S.ScalarValue.shown in
    let vars = view_variables shown l.variables in
    append_items (view_items shown l.made.items) (const_items vars (view_items shown (drop l.item-index l.items))) ≡ const_items vars (view_items shown l.items)
