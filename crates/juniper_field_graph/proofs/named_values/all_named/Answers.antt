use Rattle.std.proofs.Common.{true, false, ap, ◌∙◌}
use Rattle.juniper_field_graph.specs.NamedValues.{view_named}
use Rattle.juniper_field_graph.specs.SameValues.{field_at}
use Rattle.juniper_field_graph.proofs.NamedValues.{name-passed, name-stops, names-done, found-by}
use Rattle.juniper_field_graph.proofs.named_values.all_named.Goals as goal

pub loop-value-preserved : goal.loop-value-preserved
loop-value-preserved g c =
    let text = g.N.AsStr.text in
    let shown = g.S.ScalarValue.shown in
    let others = view_named g.M.AsStr.text shown c.args.others.now in
    name-passed text shown c.args.values.now c.loop-value.value-index c.value-item.result others c.loop-value-test.true c.value-item.is
    (found-by _ c.value_at.result _ c.is_none.result false (c.value_at.ensures ∙ ap (field_at others) c.as_str.ensures) c.is_none.ensures c.if-is_none.false)
    ∙ c.loop-value.invariant

pub returns-then-is_none : goal.returns-then-is_none
returns-then-is_none g c =
    let text = g.N.AsStr.text in
    let shown = g.S.ScalarValue.shown in
    let others = view_named g.M.AsStr.text shown c.args.others.now in
    name-stops text shown c.args.values.now c.loop-value.value-index c.value-item.result others c.loop-value-test.true c.value-item.is
    (found-by _ c.value_at.result _ c.is_none.result true (c.value_at.ensures ∙ ap (field_at others) c.as_str.ensures) c.is_none.ensures c.if-is_none.true)
    ∙ c.loop-value.invariant

pub returns : goal.returns
returns g c =
    let shown = g.S.ScalarValue.shown in
    names-done g.N.AsStr.text shown c.args.values.now c.loop-value.value-index (view_named g.M.AsStr.text shown c.args.others.now) c.loop-value-test.false
    ∙ c.loop-value.invariant
