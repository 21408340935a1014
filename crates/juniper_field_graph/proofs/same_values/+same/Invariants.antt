use Rattle.std.proofs.Common.{◌≡◌, drop, string_bytes}
use Rattle.juniper_syntax.specs.InputView.{view_items}
use Rattle.juniper_field_graph.specs.NamedValues.{view_named}
use Rattle.juniper_field_graph.specs.SameValues.{same_fields, same_items}
use Rattle.juniper_field_graph.proofs.same_values.+same.Given as goal

-- what is left decides
abbrev pub invariant-same_fields-loop-field : goal.invariant-same_fields-loop-field
invariant-same_fields-loop-field g l =
    let shown = g.S.ScalarValue.shown in
    let others = view_named (λ n. string_bytes n) shown l.others in
    same_fields (view_named (λ n. string_bytes n) shown (drop l.field-index l.fields)) others
    ≡ same_fields (view_named (λ n. string_bytes n) shown l.fields) others

-- what is left of both decides
abbrev pub invariant-same_items-loop-index : goal.invariant-same_items-loop-index
invariant-same_items-loop-index g l =
    let shown = g.S.ScalarValue.shown in
    same_items (view_items shown (drop l.index l.items)) (view_items shown (drop l.index l.others))
    ≡ same_items (view_items shown l.items) (view_items shown l.others)
