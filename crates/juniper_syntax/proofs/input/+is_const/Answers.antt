use Rattle.std.proofs.Common.{◌≡◌, get_or, sym, ap, refl, ◌∙◌, arith, rules}
use denote.Param.Weighed.{at_most}
use Rattle.juniper_syntax.proofs.input.InputValue.TheLaws.{the_size}
use Rattle.juniper_syntax.specs.declared.input.InputValue.TheShapes.{weighed-InputValue-Object-0-at-4}
use Rattle.graphql_spec.specs.Inputs.{is_const, items_are_const, fields_are_const}
use Rattle.juniper_syntax.specs.InputView.{view_input, view_items, view_fields}
use Rattle.juniper_syntax.proofs.Inputs.{view-Variable, view-List, view-Object}
use Rattle.juniper_syntax.proofs.Constants.{items_pass, items_stop, items_done, fields_pass, fields_stop, fields_done}
use Rattle.juniper_syntax.proofs.input.+is_const.Goals as goal

pub InputValue::is_const-returns-in-Variable : goal.InputValue::is_const-returns-in-Variable
unfolding is_const
InputValue::is_const-returns-in-Variable g t c =
    let shown = g.S.ScalarValue.shown in
    sym (ap is_const (ap (view_input shown) c.in-Variable.is ∙ view-Variable shown c.in-Variable.field-0))

pub InputValue::is_const-returns-in-List : goal.InputValue::is_const-returns-in-List
unfolding is_const
InputValue::is_const-returns-in-List g t c =
    let shown = g.S.ScalarValue.shown in
    let seen = ap (view_input shown) c.in-List.is ∙ view-List shown c.in-List.items in
    c.items_are_const.ensures ∙ ap (λ vs. items_are_const (view_items shown vs)) c.as_slice.ensures.value ∙ sym (ap is_const seen)

pub InputValue::is_const-returns-in-Object : goal.InputValue::is_const-returns-in-Object
unfolding is_const
InputValue::is_const-returns-in-Object g t c =
    let shown = g.S.ScalarValue.shown in
    let seen = ap (view_input shown) c.in-Object.is ∙ view-Object shown c.in-Object.fields in
    c.fields_are_const.ensures ∙ ap (λ vs. fields_are_const (view_fields shown vs)) c.as_slice-in-Object.ensures.value ∙ sym (ap is_const seen)

pub items_are_const-loop-item-init : goal.items_are_const-loop-item-init
items_are_const-loop-item-init g t c = refl

pub items_are_const-loop-item-preserved : goal.items_are_const-loop-item-preserved
items_are_const-loop-item-preserved g t c =
    let l = c.loop-item in
    items_pass g.S.ScalarValue.shown c.args.items.now l.item-index c.item-item.result c.loop-item-test.true c.item-item.is
    (sym c.is_const.ensures ∙ c.if-not-is_const.false) ∙ l.invariant

pub items_are_const-returns-then-not-is_const : goal.items_are_const-returns-then-not-is_const
items_are_const-returns-then-not-is_const g t c =
    let l = c.loop-item in
    items_stop g.S.ScalarValue.shown c.args.items.now l.item-index c.item-item.result c.loop-item-test.true c.item-item.is
    (sym c.is_const.ensures ∙ c.if-not-is_const.true) ∙ l.invariant

pub items_are_const-returns : goal.items_are_const-returns
items_are_const-returns g t c = items_done g.S.ScalarValue.shown c.args.items.now c.loop-item.item-index c.loop-item-test.false ∙ c.loop-item.invariant

pub fields_are_const-loop-field-init : goal.fields_are_const-loop-field-init
fields_are_const-loop-field-init g t c = refl

pub fields_are_const-loop-field-preserved : goal.fields_are_const-loop-field-preserved
fields_are_const-loop-field-preserved g t c =
    let l = c.loop-field in
    fields_pass g.S.ScalarValue.shown c.args.fields.now l.field-index c.field-item.result c.loop-field-test.true c.field-item.is
    (sym c.is_const.ensures ∙ c.if-not-is_const.false) ∙ l.invariant

pub fields_are_const-returns-then-not-is_const : goal.fields_are_const-returns-then-not-is_const
fields_are_const-returns-then-not-is_const g t c =
    let l = c.loop-field in
    fields_stop g.S.ScalarValue.shown c.args.fields.now l.field-index c.field-item.result c.loop-field-test.true c.field-item.is
    (sym c.is_const.ensures ∙ c.if-not-is_const.true) ∙ l.invariant

pub fields_are_const-returns : goal.fields_are_const-returns
fields_are_const-returns g t c = fields_done g.S.ScalarValue.shown c.args.fields.now c.loop-field.field-index c.loop-field-test.false ∙ c.loop-field.invariant

pub fields_are_const-is_const-requires : goal.fields_are_const-is_const-requires
fields_are_const-is_const-requires g t c κs within = (
  let size = the_size g.row.S g.S.laws in
      let most_of = (weighed-InputValue-Object-0-at-4 g.row.S.Denot).weight _ size in
      let at = at_most most_of c.args.fields.now c.loop-field.field-index c.field-item.result (omega arith) in
      let same : most_of c.field-item.result ≡ most_of (get_or c.args.fields.now c.loop-field.field-index c.field-item.result) = ap most_of c.field-item.is in
      omega (arith, c.decreases, at, same),
  search rules,
)
