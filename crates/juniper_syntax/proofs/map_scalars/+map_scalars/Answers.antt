use Rattle.std.proofs.Common.{sym, ap, ◌∙◌, arith}
use Rattle.std.proofs.lemmas.Map.Entries.{length-values_of}
use Rattle.std.specs.Map.{values_of}
use Rattle.graphql_spec.specs.Values as spec
use Rattle.juniper_syntax.specs.ValueView.{view_value, view_values}
use Rattle.juniper_syntax.specs.declared.value.Object.{out-Object}
use Rattle.juniper_syntax.proofs.Values.{view-Null, view-Scalar, view-List, view-Object, view-out, view-roll}
use Rattle.juniper_syntax.proofs.ValueLists.{append_values, values_long, entries_same}
use Rattle.juniper_syntax.proofs.Mapped.{mapped_turn, mapped_end}
use Rattle.juniper_syntax.proofs.map_scalars.+map_scalars.Goals as goal

pub map_values-loop-item-init : goal.map_values-loop-item-init
map_values-loop-item-init g t c =
    let seen = g.S.ScalarValue.shown in
    ap (λ vs. append_values (view_values g.T.ScalarValue.shown vs) (view_values seen c.args.items.now)) c.in_ok-made.ensures.items

pub map_values-loop-item-preserved : goal.map_values-loop-item-preserved
map_values-loop-item-preserved g t c =
    mapped_turn g.S.ScalarValue.shown g.T.ScalarValue.shown c.args.items.now c.loop-item.made.items c.push.new.self.items c.loop-item.item-index
    c.item-item.result c.in_ok-copy.copy c.in_ok-push.ensures.items (omega arith)
    c.item-item.is c.in_ok-copy.ensures
    ∙ c.loop-item.invariant

pub map_values-returns : goal.map_values-returns
map_values-returns g t c =
    mapped_end g.S.ScalarValue.shown g.T.ScalarValue.shown c.args.items.now c.loop-item.made.items c.loop-item.item-index (omega arith) ∙ c.loop-item.invariant

pub map_object-returns : goal.map_object-returns
map_object-returns g t c =
    let seen = g.S.ScalarValue.shown in
    let shown = g.T.ScalarValue.shown in
    let fields = (out-Object g.row.S.Denot c.args.object.now).fields in
    let values = ap (view_values shown) c.in_ok-fields.ensures.values ∙ c.in_ok-values.ensures ∙ ap (view_values seen) c.values.ensures in
    view-roll shown c.in_ok-fields.fields ∙ entries_same seen shown c.in_ok-fields.fields fields c.in_ok-fields.ensures.keys values
    ∙ sym (view-out seen c.args.object.now)

pub map_object-with_values-requires : goal.map_object-with_values-requires
map_object-with_values-requires g t c =
    let seen = g.S.ScalarValue.shown in
    let fields = (out-Object g.row.S.Denot c.args.object.now).fields in
    values_long seen g.T.ScalarValue.shown c.in_ok-values.values.items (values_of fields) (c.in_ok-values.ensures ∙ ap (view_values seen) c.values.ensures)
    ∙ length-values_of fields

pub map_value-returns-in-Null : goal.map_value-returns-in-Null
map_value-returns-in-Null g t c =
    let seen = g.S.ScalarValue.shown in
    view-Null g.T.ScalarValue.shown ∙ sym (ap (view_value seen) c.in-Null.is ∙ view-Null seen)

pub map_value-returns-in_ok-map_scalar-in-Scalar : goal.map_value-returns-in_ok-map_scalar-in-Scalar
map_value-returns-in_ok-map_scalar-in-Scalar g t c =
    let seen = g.S.ScalarValue.shown in
    let is = ap (view_value seen) c.in-Scalar.is ∙ view-Scalar seen c.in-Scalar.scalar in
    view-Scalar g.T.ScalarValue.shown c.in_ok-map_scalar-in-Scalar.field-0 ∙ ap spec.scalar c.in_ok-map_scalar-in-Scalar.ensures ∙ sym is

pub map_value-returns-in_ok-map_values-in-List : goal.map_value-returns-in_ok-map_values-in-List
map_value-returns-in_ok-map_values-in-List g t c =
    let seen = g.S.ScalarValue.shown in
    let is = ap (view_value seen) c.in-List.is ∙ view-List seen c.in-List.items in
    view-List g.T.ScalarValue.shown c.in_ok-map_values-in-List.field-0
    ∙ ap spec.list (c.in_ok-map_values-in-List.ensures ∙ ap (view_values seen) c.as_slice.ensures.value) ∙ sym is

pub map_value-returns-in_ok-map_object-in-Object : goal.map_value-returns-in_ok-map_object-in-Object
map_value-returns-in_ok-map_object-in-Object g t c =
    let seen = g.S.ScalarValue.shown in
    let is = ap (view_value seen) c.in-Object.is ∙ view-Object seen c.in-Object.object in
    view-Object g.T.ScalarValue.shown c.in_ok-map_object-in-Object.field-0 ∙ ap spec.object c.in_ok-map_object-in-Object.ensures ∙ sym is
