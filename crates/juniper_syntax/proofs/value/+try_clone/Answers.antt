use Rattle.std.proofs.Common.{sym, ap, ◌∙◌, arith}
use Rattle.std.proofs.lemmas.Map.Entries.{length-values_of}
use Rattle.std.specs.Map.{values_of}
use Rattle.graphql_spec.specs.Values as spec
use Rattle.juniper_syntax.specs.ValueView.{view_value, view_values}
use Rattle.juniper_syntax.specs.declared.value.Object.{out-Object}
use Rattle.juniper_syntax.proofs.Values.{view-Scalar, view-List, view-Object, view-out, view-roll}
use Rattle.juniper_syntax.proofs.ValueLists.{append_values, values_turn, values_end, values_long, entries_same}
use Rattle.juniper_syntax.proofs.value.+try_clone.Goals as goal

pub clone_values-loop-item-preserved : goal.clone_values-loop-item-preserved
clone_values-loop-item-preserved g t c =
    values_turn g.S.ScalarValue.shown c.args.items.now c.loop-item.made.items c.push.new.self.items c.loop-item.item-index c.item-item.result c.in_ok-copy.copy
    c.in_ok-push.ensures.items (omega arith)
    c.item-item.is c.in_ok-copy.ensures
    ∙ c.loop-item.invariant

pub clone_values-returns : goal.clone_values-returns
clone_values-returns g t c =
    values_end g.S.ScalarValue.shown c.args.items.now c.loop-item.made.items c.loop-item.item-index (omega arith) ∙ c.loop-item.invariant

pub clone_object-returns : goal.clone_object-returns
clone_object-returns g t c =
    let shown = g.S.ScalarValue.shown in
    let fields = (out-Object g.row.S.Denot c.args.object.now).fields in
    let values = ap (view_values shown) c.in_ok-fields.ensures.values ∙ c.in_ok-values.ensures ∙ ap (view_values shown) c.values.ensures in
    view-roll shown c.in_ok-fields.fields ∙ entries_same shown shown c.in_ok-fields.fields fields c.in_ok-fields.ensures.keys values
    ∙ sym (view-out shown c.args.object.now)

pub clone_object-with_values-requires : goal.clone_object-with_values-requires
clone_object-with_values-requires g t c =
    let shown = g.S.ScalarValue.shown in
    let fields = (out-Object g.row.S.Denot c.args.object.now).fields in
    values_long shown shown c.in_ok-values.values.items (values_of fields) (c.in_ok-values.ensures ∙ ap (view_values shown) c.values.ensures)
    ∙ length-values_of fields

pub Value::try_clone-returns-in-Null : goal.Value::try_clone-returns-in-Null
Value::try_clone-returns-in-Null g t c = sym (ap (view_value g.S.ScalarValue.shown) c.in-Null.is)

pub Value::try_clone-returns-in_ok-try_clone-in-Scalar : goal.Value::try_clone-returns-in_ok-try_clone-in-Scalar
Value::try_clone-returns-in_ok-try_clone-in-Scalar g t c =
    let shown = g.S.ScalarValue.shown in
    let seen = ap (view_value shown) c.in-Scalar.is ∙ view-Scalar shown c.in-Scalar.scalar in
    view-Scalar shown c.in_ok-try_clone-in-Scalar.field-0 ∙ ap spec.scalar c.in_ok-try_clone-in-Scalar.ensures ∙ sym seen

pub Value::try_clone-returns-in_ok-clone_values-in-List : goal.Value::try_clone-returns-in_ok-clone_values-in-List
Value::try_clone-returns-in_ok-clone_values-in-List g t c =
    let shown = g.S.ScalarValue.shown in
    let seen = ap (view_value shown) c.in-List.is ∙ view-List shown c.in-List.items in
    view-List shown c.in_ok-clone_values-in-List.field-0 ∙ ap spec.list (c.in_ok-clone_values-in-List.ensures ∙ ap (view_values shown) c.as_slice.ensures.value)
    ∙ sym seen

pub Value::try_clone-returns-in_ok-clone_object-in-Object : goal.Value::try_clone-returns-in_ok-clone_object-in-Object
Value::try_clone-returns-in_ok-clone_object-in-Object g t c =
    let shown = g.S.ScalarValue.shown in
    let seen = ap (view_value shown) c.in-Object.is ∙ view-Object shown c.in-Object.object in
    view-Object shown c.in_ok-clone_object-in-Object.field-0 ∙ ap spec.object c.in_ok-clone_object-in-Object.ensures ∙ sym seen

pub clone_values-loop-item-init : goal.clone_values-loop-item-init
clone_values-loop-item-init g t c =
    let shown = g.S.ScalarValue.shown in
    ap (λ vs. append_values (view_values shown vs) (view_values shown c.args.items.now)) c.in_ok-made.ensures.items
