use Rattle.std.proofs.Common.{◌++◌, string_bytes, refl, ap, ◌∙◌}
use Rattle.graphql_spec.specs.Constants.{meaning}
use Rattle.juniper_syntax.specs.InputView.{view_input}
use Rattle.juniper_field_graph.specs.CallParts.{put_in_order, value_parts, view_members, view_parts}
use Rattle.juniper_field_graph.proofs.CallMembers.{items-done, items-more, members-joined, members-more, members-none}
use Rattle.juniper_field_graph.proofs.CallValues.{end-put, enum-put, list-put, null-put, object-put, scalar-put, variable-put}
use Rattle.juniper_field_graph.proofs.call_parts.+parts.Goals as goal

pub put_value-returns-in_ok-push-in-Null : goal.put_value-returns-in_ok-push-in-Null
put_value-returns-in_ok-push-in-Null g t c =
    null-put g.S.ScalarValue.shown c.args.value.now c.args.parts.now.items c.push.new.self.items c.in-Null.is c.in_ok-push-in-Null.ensures.items

pub put_value-returns-in_ok-push-in-Scalar : goal.put_value-returns-in_ok-push-in-Scalar
put_value-returns-in_ok-push-in-Scalar g t c =
    scalar-put g.S.ScalarValue.shown c.args.value.now c.args.parts.now.items c.push-in-Scalar.new.self.items c.in-Scalar.scalar c.part_of_scalar.result
    c.in-Scalar.is c.part_of_scalar.ensures c.in_ok-push-in-Scalar.ensures.items

pub put_value-returns-in_ok-push-in-Enum : goal.put_value-returns-in_ok-push-in-Enum
put_value-returns-in_ok-push-in-Enum g t c =
    enum-put g.S.ScalarValue.shown c.args.value.now c.args.parts.now.items c.push-in-Enum.new.self.items c.in-Enum.name c.as_str.result c.in-Enum.is
    c.as_str.ensures.value c.in_ok-push-in-Enum.ensures.items

pub put_value-returns-in_ok-push-in-Variable : goal.put_value-returns-in_ok-push-in-Variable
put_value-returns-in_ok-push-in-Variable g t c =
    variable-put g.S.ScalarValue.shown c.args.value.now c.args.parts.now.items c.push-in-Variable.new.self.items c.in-Variable.name
    c.as_str-in-Variable.result c.in-Variable.is c.as_str-in-Variable.ensures.value c.in_ok-push-in-Variable.ensures.items

pub put_value-returns-in_ok-put_items-in-List : goal.put_value-returns-in_ok-put_items-in-List
put_value-returns-in_ok-put_items-in-List g t c =
    list-put g.S.ScalarValue.shown c.args.value.now c.args.parts.now.items c.push-in-List.new.self.items c.in-List.items c.as_slice.result.now
    (view_parts c.put_items.new.parts.items) c.in-List.is c.as_slice.ensures.value c.in_ok-push-in-List.ensures.items
    c.in_ok-put_items-in-List.ensures

pub put_value-returns-in_ok-put_fields-in-Object : goal.put_value-returns-in_ok-put_fields-in-Object
put_value-returns-in_ok-put_fields-in-Object g t c =
    object-put g.S.ScalarValue.shown c.args.value.now c.args.parts.now.items c.push-in-Object.new.self.items c.in-Object.fields
    c.as_slice-in-Object.result.now (view_parts c.put_fields.new.parts.items) c.in-Object.is c.as_slice-in-Object.ensures.value
    c.in_ok-push-in-Object.ensures.items c.in_ok-put_fields-in-Object.ensures

pub put_items-loop-item-init : goal.put_items-loop-item-init
put_items-loop-item-init g t c = refl

pub put_items-loop-item-preserved : goal.put_items-loop-item-preserved
put_items-loop-item-preserved g t c =
    items-more g.S.ScalarValue.shown c.args.items.now c.loop-item.item-index c.item-item.result (view_parts c.loop-item.parts.items)
    (view_parts c.put_value.new.parts.items) _ c.loop-item-test.true c.item-item.is c.in_ok-put_value.ensures c.loop-item.invariant

pub put_items-returns : goal.put_items-returns
put_items-returns g t c =
    items-done g.S.ScalarValue.shown c.args.items.now c.loop-item.item-index (view_parts c.loop-item.parts.items) (view_parts c.push.new.self.items) _
    c.loop-item-test.false (end-put c.loop-item.parts.items c.push.new.self.items c.in_ok-push.ensures.items) c.loop-item.invariant

pub put_fields-loop-turn-init : goal.put_fields-loop-turn-init
put_fields-loop-turn-init g t c =
    members-none (λ n. string_bytes n) g.S.ScalarValue.shown c.args.fields.now c.new-by_name.result.entries c.new-by_name.ensures.empty

pub put_fields-loop-turn-preserved : goal.put_fields-loop-turn-preserved
put_fields-loop-turn-preserved g t c =
    let shown = g.S.ScalarValue.shown in
    let x = c.index-fields-fields.result in
    members-more (λ n. string_bytes n) shown c.args.fields.now c.loop-turn.turn x c.loop-turn.by_name.entries c.put_member.new.by_name.entries
    (view_parts c.put_value.new.parts.items) c.loop-turn-test.true c.index-fields-fields.is
    (c.in_ok-put_value.ensures ∙ ap (λ ps. view_parts ps ++ value_parts (meaning (view_input shown x.1.item))) c.new-value.ensures.items)
    (c.in_ok-put_member.ensures
    ∙ ap (λ k. put_in_order k (view_parts c.put_value.new.parts.items) (view_members c.loop-turn.by_name.entries)) c.as_str.ensures.value)
    c.loop-turn.invariant

pub put_fields-returns : goal.put_fields-returns
put_fields-returns g t c =
    members-joined (λ n. string_bytes n) g.S.ScalarValue.shown c.args.fields.now c.loop-turn.turn c.loop-turn.by_name.entries
    (view_parts c.args.parts.now.items) (view_parts c.put_members.new.parts.items) c.loop-turn-test.false c.loop-turn.invariant
    c.in_ok-put_members.ensures
