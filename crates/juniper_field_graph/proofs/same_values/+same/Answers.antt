use Rattle.std.proofs.Common.{◌≤◌, length, option_map, string_bytes, sym, ap, refl, ◌∙◌, arith}
use Rattle.graphql_spec.specs.Inputs as inputs
use Rattle.juniper_syntax.specs.InputView.{view_fields, view_input}
use Rattle.juniper_syntax.proofs.Inputs.{view-Null, view-Object}
use Rattle.juniper_field_graph.specs.NamedValues.{view_named}
use Rattle.juniper_field_graph.specs.SameValues.{passes, same_value}
use Rattle.juniper_field_graph.proofs.SameItems.{both-keyed, items-differ, items-done, items-pass, items-stop, null_is_same, one-differs, value-found}
use Rattle.juniper_field_graph.proofs.SameItems.{values-done, values-pass, values-stop}
use Rattle.juniper_field_graph.proofs.same_values.+same.Goals as goal

pub same_value-returns-in-Null : goal.same_value-returns-in-Null
same_value-returns-in-Null g t c =
    let shown = g.S.ScalarValue.shown in
    let second = view_input shown c.args.second.now in
    c.is_null.ensures ∙ (null_is_same second ∙ ap (λ v. same_value v second) (sym (ap (view_input shown) c.in-Null.is ∙ view-Null shown)))

pub same_value-returns-in-Object : goal.same_value-returns-in-Object
same_value-returns-in-Object g t c =
    let shown = g.S.ScalarValue.shown in
    let second = view_input shown c.args.second.now in
    c.same_object.ensures
    ∙ (ap (λ fs. same_value (inputs.object (view_fields shown fs)) second) c.as_slice-in-Object.ensures.value
    ∙ ap (λ v. same_value v second) (sym (ap (view_input shown) c.in-Object.is ∙ view-Object shown c.in-Object.fields)))

pub same_object-returns-then-same_fields : goal.same_object-returns-then-same_fields
same_object-returns-then-same_fields g t c =
    let shown = g.S.ScalarValue.shown in
    both-keyed shown c.args.second.now c.in-Object.others c.args.fields.now c.as_slice.result.now c.as_slice-then-same_fields.result.now c.in-Object.is
    c.as_slice.ensures.value c.as_slice-then-same_fields.ensures.value
    c.same_fields.result c.all_named.result c.same_fields.ensures c.if-same_fields.true c.all_named.ensures

pub same_object-returns-else-same_fields : goal.same_object-returns-else-same_fields
same_object-returns-else-same_fields g t c =
    let shown = g.S.ScalarValue.shown in
    one-differs shown c.args.second.now c.in-Object.others c.args.fields.now c.as_slice.result.now c.in-Object.is c.as_slice.ensures.value
    c.same_fields.result c.same_fields.ensures c.if-same_fields.false

pub same_fields-loop-field-init : goal.same_fields-loop-field-init
same_fields-loop-field-init g t c = refl

pub same_fields-loop-field-preserved : goal.same_fields-loop-field-preserved
same_fields-loop-field-preserved g t c =
    let shown = g.S.ScalarValue.shown in
    let others = view_named (λ n. string_bytes n) shown c.args.others.now in
    let x = c.field-item.result in
    values-pass (λ n. string_bytes n) shown c.args.fields.now others c.loop-field.field-index x c.loop-field-test.true c.field-item.is
    (value-found (λ n. string_bytes n) shown others x c.as_str.result.now c.value_at.result c.as_str.ensures.value c.value_at.ensures c.is_matched.result
    c.is_matched.ensures ∙ c.if-not-is_matched.false)
    ∙ c.loop-field.invariant

pub same_fields-returns-then-not-is_matched : goal.same_fields-returns-then-not-is_matched
same_fields-returns-then-not-is_matched g t c =
    let shown = g.S.ScalarValue.shown in
    let others = view_named (λ n. string_bytes n) shown c.args.others.now in
    let x = c.field-item.result in
    values-stop (λ n. string_bytes n) shown c.args.fields.now others c.loop-field.field-index x c.loop-field-test.true c.field-item.is
    (value-found (λ n. string_bytes n) shown others x c.as_str.result.now c.value_at.result c.as_str.ensures.value c.value_at.ensures c.is_matched.result
    c.is_matched.ensures ∙ c.if-not-is_matched.true)
    ∙ c.loop-field.invariant

pub same_fields-returns : goal.same_fields-returns
same_fields-returns g t c =
    let shown = g.S.ScalarValue.shown in
    values-done (λ n. string_bytes n) shown c.args.fields.now (view_named (λ n. string_bytes n) shown c.args.others.now) c.loop-field.field-index
    c.loop-field-test.false ∙ c.loop-field.invariant

pub is_matched-returns-in-Some : goal.is_matched-returns-in-Some
unfolding passes
is_matched-returns-in-Some g t c =
    let shown = g.S.ScalarValue.shown in
    c.same_value.ensures ∙ ap (λ o. passes (λ w. same_value (view_input shown c.args.first.now) w) (option_map (λ v. view_input shown v.now) o))
    (sym c.in-Some.is)

pub is_matched-returns-in-None : goal.is_matched-returns-in-None
unfolding passes
is_matched-returns-in-None g t c =
    let shown = g.S.ScalarValue.shown in
    ap (λ o. passes (λ w. same_value (view_input shown c.args.first.now) w) (option_map (λ v. view_input shown v.now) o)) (sym c.in-None.is)

pub same_items-returns-then-items-others : goal.same_items-returns-then-items-others
same_items-returns-then-items-others g t c = items-differ g.S.ScalarValue.shown c.args.items.now c.args.others.now c.if-items-others.true

pub same_items-loop-index-init : goal.same_items-loop-index-init
same_items-loop-index-init g t c = refl

pub same_items-loop-index-preserved : goal.same_items-loop-index-preserved
same_items-loop-index-preserved g t c =
    let one = c.in-Some-Some.ensures.lookup in
    let two = c.in-Some-Some.ensures'.lookup in
    items-pass g.S.ScalarValue.shown c.args.items.now c.args.others.now c.loop-index.index c.in-Some-Some.item.now c.in-Some-Some.other.now one.3.0 two.3.0
    one.1 two.1
    (sym c.same_value.ensures ∙ c.if-not-same_value.false)
    ∙ c.loop-index.invariant

pub same_items-returns-then-not-same_value : goal.same_items-returns-then-not-same_value
same_items-returns-then-not-same_value g t c =
    let one = c.in-Some-Some.ensures.lookup in
    let two = c.in-Some-Some.ensures'.lookup in
    items-stop g.S.ScalarValue.shown c.args.items.now c.args.others.now c.loop-index.index c.in-Some-Some.item.now c.in-Some-Some.other.now one.3.0 two.3.0
    one.1 two.1
    (sym c.same_value.ensures ∙ c.if-not-same_value.true)
    ∙ c.loop-index.invariant

pub same_items-returns : goal.same_items-returns
same_items-returns g t c =
    let past : length c.args.items.now ≤ c.loop-index.index = omega (arith, c.loop-index-test.false) in
    let past' : length c.args.others.now ≤ c.loop-index.index = omega (arith, c.loop-index-test.false, c.if-items-others.false) in
    items-done g.S.ScalarValue.shown c.args.items.now c.args.others.now c.loop-index.index past past' ∙ c.loop-index.invariant
