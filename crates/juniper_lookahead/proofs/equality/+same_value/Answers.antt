use Rattle.std.proofs.Common.{rules, sym, ◌∙◌, arith}
use Rattle.juniper_lookahead.specs.ValueView.{view_shown_item, view_shown_field}
use Rattle.juniper_lookahead.proofs.EqualityLoops.{item-alone, item-elsewhere, item-differs, item-same, items-end, item-weighs}
use Rattle.juniper_lookahead.proofs.EqualityLoops.{field-alone, field-elsewhere, field-differs, field-same, fields-end, field-weighs, turned_over}
use Rattle.juniper_lookahead.proofs.equality.+same_value.Goals as goal

pub same_list-returns-in_default : goal.same_list-returns-in_default
same_list-returns-in_default g t c = item-alone (view_shown_item g.S.ScalarValue.shown c.in-Some.item) c.in-Some.ensures.steps
    c.loop-item.invariant.2 c.in_default.ensures.steps.0

pub same_list-returns-then-not-same_place : goal.same_list-returns-then-not-same_place
same_list-returns-then-not-same_place g t c =
    let x = view_shown_item g.S.ScalarValue.shown c.in-Some.item in
    let y = view_shown_item g.S.ScalarValue.shown c.in-Some-next.other in
    item-elsewhere x c.in-Some.ensures.steps c.loop-item.invariant.2 y c.in-Some-next.ensures.steps (sym c.same_place.ensures ∙ c.if-not-same_place.true)

pub same_list-same_value-requires : goal.same_list-same_value-requires
same_list-same_value-requires g t c κs within = (
  let one = item-weighs (view_shown_item g.S.ScalarValue.shown c.in-Some.item) c.in-Some.ensures.steps in
      omega (arith, c.decreases, one, c.loop-item.invariant.3),
  search rules,
)

pub same_list-returns-then-not-same_value : goal.same_list-returns-then-not-same_value
same_list-returns-then-not-same_value g t c =
    let x = view_shown_item g.S.ScalarValue.shown c.in-Some.item in
    let y = view_shown_item g.S.ScalarValue.shown c.in-Some-next.other in
    item-differs x c.in-Some.ensures.steps c.loop-item.invariant.2 y c.in-Some-next.ensures.steps
    (sym c.same_place.ensures ∙ c.if-not-same_place.false) (sym c.same_value.ensures ∙ c.if-not-same_value.true)

pub same_list-loop-item-preserved : goal.same_list-loop-item-preserved
same_list-loop-item-preserved g t c =
    let x = view_shown_item g.S.ScalarValue.shown c.in-Some.item in
    let y = view_shown_item g.S.ScalarValue.shown c.in-Some-next.other in
    let one = item-weighs x c.in-Some.ensures.steps in
    let same = item-same x c.in-Some.ensures.steps c.loop-item.invariant.2 y c.in-Some-next.ensures.steps
    (sym c.same_place.ensures ∙ c.if-not-same_place.false) (sym c.same_value.ensures ∙ c.if-not-same_value.false) in
    (record {}, record {}, same, omega (arith, one, c.loop-item.invariant.3))

pub same_list-returns : goal.same_list-returns
same_list-returns g t c =
    turned_over c.is_none.result c.is_none.ensures
    ∙ items-end (view_shown_item g.S.ScalarValue.shown) _ _ _ c.next-2.result c.in-None.ensures.steps.0 c.next-2.ensures.steps c.loop-item.invariant.2

pub same_object-returns-in_default : goal.same_object-returns-in_default
same_object-returns-in_default g t c = field-alone (view_shown_field g.S.ScalarValue.shown c.in-Some.field) c.in-Some.ensures.steps
    c.loop-field.invariant.2 c.in_default.ensures.steps.0

pub same_object-returns-then-not-same_head : goal.same_object-returns-then-not-same_head
same_object-returns-then-not-same_head g t c =
    let x = view_shown_field g.S.ScalarValue.shown c.in-Some.field in
    let y = view_shown_field g.S.ScalarValue.shown c.in-Some-next.other in
    field-elsewhere x c.in-Some.ensures.steps c.loop-field.invariant.2 y c.in-Some-next.ensures.steps (sym c.same_head.ensures ∙ c.if-not-same_head.true)

pub same_object-same_value-requires : goal.same_object-same_value-requires
same_object-same_value-requires g t c κs within = (
  let one = field-weighs (view_shown_field g.S.ScalarValue.shown c.in-Some.field) c.in-Some.ensures.steps in
      omega (arith, c.decreases, one, c.loop-field.invariant.3),
  search rules,
)

pub same_object-returns-then-not-same_value : goal.same_object-returns-then-not-same_value
same_object-returns-then-not-same_value g t c =
    let x = view_shown_field g.S.ScalarValue.shown c.in-Some.field in
    let y = view_shown_field g.S.ScalarValue.shown c.in-Some-next.other in
    field-differs x c.in-Some.ensures.steps c.loop-field.invariant.2 y c.in-Some-next.ensures.steps
    (sym c.same_head.ensures ∙ c.if-not-same_head.false) (sym c.same_value.ensures ∙ c.if-not-same_value.true)

pub same_object-loop-field-preserved : goal.same_object-loop-field-preserved
same_object-loop-field-preserved g t c =
    let x = view_shown_field g.S.ScalarValue.shown c.in-Some.field in
    let y = view_shown_field g.S.ScalarValue.shown c.in-Some-next.other in
    let one = field-weighs x c.in-Some.ensures.steps in
    let same = field-same x c.in-Some.ensures.steps c.loop-field.invariant.2 y c.in-Some-next.ensures.steps
    (sym c.same_head.ensures ∙ c.if-not-same_head.false) (sym c.same_value.ensures ∙ c.if-not-same_value.false) in
    (record {}, record {}, same, omega (arith, one, c.loop-field.invariant.3))

pub same_object-returns : goal.same_object-returns
same_object-returns g t c =
    turned_over c.is_none.result c.is_none.ensures
    ∙ fields-end (view_shown_field g.S.ScalarValue.shown) _ _ _ c.next-2.result c.in-None.ensures.steps.0 c.next-2.ensures.steps c.loop-field.invariant.2
