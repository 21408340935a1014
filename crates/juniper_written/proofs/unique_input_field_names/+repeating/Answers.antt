use Rattle.std.proofs.Common.{◌≡◌, get_or, sym, ap, refl, ◌∙◌, ◌||◌, arith, rules}
use denote.Param.Weighed.{at_most}
use Rattle.juniper_syntax.proofs.input.InputValue.TheLaws.{the_size}
use Rattle.juniper_syntax.specs.declared.input.InputValue.TheShapes.{weighed-InputValue-Object-0-at-4}
use Rattle.graphql_spec.specs.Written.{field_repeats, item_repeats, fields_repeat}
use Rattle.juniper_syntax.specs.InputView.{view_input, view_items, view_fields}
use Rattle.juniper_syntax.proofs.Inputs.{view-Null, view-Scalar, view-Enum, view-Variable, view-List, view-Object}
use Rattle.juniper_written.specs.FieldNames.{values_repeat}
use Rattle.juniper_written.proofs.FieldRepeats.{repeats-split, items_pass, items_stop, items_done, fields_pass, fields_stop, fields_done}
use Rattle.juniper_written.proofs.unique_input_field_names.+repeating.Goals as goal

pub value_repeats-returns-in-Null : goal.value_repeats-returns-in-Null
unfolding field_repeats
value_repeats-returns-in-Null g t c =
    let shown = g.S.ScalarValue.shown in
    sym (ap field_repeats (ap (view_input shown) c.in-Null.is ∙ view-Null shown))

pub value_repeats-returns-in-Scalar : goal.value_repeats-returns-in-Scalar
unfolding field_repeats
value_repeats-returns-in-Scalar g t c =
    let shown = g.S.ScalarValue.shown in
    sym (ap field_repeats (ap (view_input shown) c.in-Scalar.is ∙ view-Scalar shown c.in-Scalar.field-0))

pub value_repeats-returns-in-Enum : goal.value_repeats-returns-in-Enum
unfolding field_repeats
value_repeats-returns-in-Enum g t c =
    let shown = g.S.ScalarValue.shown in
    sym (ap field_repeats (ap (view_input shown) c.in-Enum.is ∙ view-Enum shown c.in-Enum.field-0))

pub value_repeats-returns-in-Variable : goal.value_repeats-returns-in-Variable
unfolding field_repeats
value_repeats-returns-in-Variable g t c =
    let shown = g.S.ScalarValue.shown in
    sym (ap field_repeats (ap (view_input shown) c.in-Variable.is ∙ view-Variable shown c.in-Variable.field-0))

pub value_repeats-returns-in_ok-found-in-List : goal.value_repeats-returns-in_ok-found-in-List
unfolding field_repeats
value_repeats-returns-in_ok-found-in-List g t c =
    let shown = g.S.ScalarValue.shown in
    let seen = ap (view_input shown) c.in-List.is ∙ view-List shown c.in-List.items in
    c.in_ok-found-in-List.ensures ∙ (ap (λ vs. item_repeats (view_items shown vs)) c.as_slice.ensures.value ∙ sym (ap field_repeats seen))

pub value_repeats-returns-in_ok-found-in-Object : goal.value_repeats-returns-in_ok-found-in-Object
unfolding field_repeats
value_repeats-returns-in_ok-found-in-Object g t c =
    let shown = g.S.ScalarValue.shown in
    let seen = ap (view_input shown) c.in-Object.is ∙ view-Object shown c.in-Object.fields in
    c.in_ok-found-in-Object.ensures ∙ (ap (λ vs. fields_repeat (view_fields shown vs)) c.as_slice-in-Object.ensures.value ∙ sym (ap field_repeats seen))

pub items_repeat-loop-item-init : goal.items_repeat-loop-item-init
items_repeat-loop-item-init g t c = refl

pub items_repeat-loop-item-preserved : goal.items_repeat-loop-item-preserved
items_repeat-loop-item-preserved g t c =
    let l = c.loop-item in
    items_pass g.S.ScalarValue.shown c.args.items.now l.item-index c.item-item.result c.loop-item-test.true c.item-item.is
    (sym c.in_ok-value_repeats.ensures ∙ c.if-branch.false) ∙ l.invariant

pub items_repeat-returns-then-branch : goal.items_repeat-returns-then-branch
items_repeat-returns-then-branch g t c =
    let l = c.loop-item in
    items_stop g.S.ScalarValue.shown c.args.items.now l.item-index c.item-item.result c.loop-item-test.true c.item-item.is
    (sym c.in_ok-value_repeats.ensures ∙ c.if-branch.true) ∙ l.invariant

pub items_repeat-returns : goal.items_repeat-returns
items_repeat-returns g t c = items_done g.S.ScalarValue.shown c.args.items.now c.loop-item.item-index c.loop-item-test.false ∙ c.loop-item.invariant

pub object_repeats-returns-then-branch : goal.object_repeats-returns-then-branch
object_repeats-returns-then-branch g t c =
    let fs = view_fields g.S.ScalarValue.shown c.args.fields.now in
    sym (repeats-split fs ∙ ap (λ b. b || values_repeat fs) (sym c.in_ok-names_repeat.ensures ∙ c.if-branch.true))

pub object_repeats-loop-field-preserved : goal.object_repeats-loop-field-preserved
object_repeats-loop-field-preserved g t c =
    let l = c.loop-field in
    fields_pass g.S.ScalarValue.shown c.args.fields.now l.field-index c.field-item.result c.loop-field-test.true c.field-item.is
    (sym c.in_ok-value_repeats.ensures ∙ c.if-branch-2.false) ∙ l.invariant

pub object_repeats-returns-then-branch-2 : goal.object_repeats-returns-then-branch-2
object_repeats-returns-then-branch-2 g t c =
    let shown = g.S.ScalarValue.shown in
    let l = c.loop-field in
    let fs = view_fields shown c.args.fields.now in
    fields_stop shown c.args.fields.now l.field-index c.field-item.result c.loop-field-test.true c.field-item.is
    (sym c.in_ok-value_repeats.ensures ∙ c.if-branch-2.true) ∙ (l.invariant
    ∙ sym (repeats-split fs ∙ ap (λ b. b || values_repeat fs) (sym c.in_ok-names_repeat.ensures ∙ c.if-branch.false)))

pub object_repeats-returns : goal.object_repeats-returns
object_repeats-returns g t c =
    let shown = g.S.ScalarValue.shown in
    let fs = view_fields shown c.args.fields.now in
    fields_done shown c.args.fields.now c.loop-field.field-index c.loop-field-test.false ∙ (c.loop-field.invariant
    ∙ sym (repeats-split fs ∙ ap (λ b. b || values_repeat fs) (sym c.in_ok-names_repeat.ensures ∙ c.if-branch.false)))

pub object_repeats-value_repeats-requires : goal.object_repeats-value_repeats-requires
object_repeats-value_repeats-requires g t c κs within = (
  let size = the_size g.row.S g.S.laws in
      let most_of = (weighed-InputValue-Object-0-at-4 g.row.S.Denot).weight _ size in
      let at = at_most most_of c.args.fields.now c.loop-field.field-index c.field-item.result (omega arith) in
      let same : most_of c.field-item.result ≡ most_of (get_or c.args.fields.now c.loop-field.field-index c.field-item.result) = ap most_of c.field-item.is in
      omega (arith, c.decreases, at, same),
  search rules,
)
