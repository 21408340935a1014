use Rattle.std.proofs.Common.{◌≡◌, get_or, sym, ap, refl, ◌∙◌, arith, rules}
use denote.Param.Weighed.{at_most}
use Rattle.juniper_syntax.proofs.input.InputValue.TheLaws.{the_size}
use Rattle.juniper_syntax.specs.declared.input.InputValue.TheShapes.{weighed-InputValue-Object-0-at-4}
use Rattle.graphql_spec.specs.Tokens.{is_name}
use Rattle.juniper_syntax.specs.InputView.{view_input, view_items, view_fields}
use Rattle.juniper_syntax.proofs.Inputs.{view-Variable, view-List, view-Object}
use Rattle.juniper_sdl.specs.Faults.{are_constants, have_constants, is_constant}
use Rattle.juniper_sdl.proofs.Constants.{items_pass, items_stop, items_done, fields_pass, fields_stop, fields_done, names_stop}
use Rattle.juniper_sdl.proofs.names.+is_constant.Goals as goal

pub is_constant-returns-in-Variable : goal.is_constant-returns-in-Variable
unfolding is_constant
is_constant-returns-in-Variable g t c =
    let shown = g.S.ScalarValue.shown in
    sym (ap is_constant (ap (view_input shown) c.in-Variable.is ∙ view-Variable shown c.in-Variable.field-0))

pub is_constant-returns-in-List : goal.is_constant-returns-in-List
unfolding is_constant
is_constant-returns-in-List g t c =
    let shown = g.S.ScalarValue.shown in
    let seen = ap (view_input shown) c.in-List.is ∙ view-List shown c.in-List.items in
    c.are_constants.ensures ∙ ap (λ vs. are_constants (view_items shown vs)) c.as_slice.ensures.value ∙ sym (ap is_constant seen)

pub is_constant-returns-in-Object : goal.is_constant-returns-in-Object
unfolding is_constant
is_constant-returns-in-Object g t c =
    let shown = g.S.ScalarValue.shown in
    let seen = ap (view_input shown) c.in-Object.is ∙ view-Object shown c.in-Object.fields in
    c.have_constants.ensures ∙ ap (λ vs. have_constants (view_fields shown vs)) c.as_slice-in-Object.ensures.value ∙ sym (ap is_constant seen)

pub are_constants-loop-item-init : goal.are_constants-loop-item-init
are_constants-loop-item-init g t c = refl

pub are_constants-loop-item-preserved : goal.are_constants-loop-item-preserved
are_constants-loop-item-preserved g t c =
    let l = c.loop-item in
    items_pass g.S.ScalarValue.shown c.args.items.now l.item-index c.item-item.result c.loop-item-test.true c.item-item.is
    (sym c.is_constant.ensures ∙ c.if-not-is_constant.false) ∙ l.invariant

pub are_constants-returns-then-not-is_constant : goal.are_constants-returns-then-not-is_constant
are_constants-returns-then-not-is_constant g t c =
    let l = c.loop-item in
    items_stop g.S.ScalarValue.shown c.args.items.now l.item-index c.item-item.result c.loop-item-test.true c.item-item.is
    (sym c.is_constant.ensures ∙ c.if-not-is_constant.true) ∙ l.invariant

pub are_constants-returns : goal.are_constants-returns
are_constants-returns g t c = items_done g.S.ScalarValue.shown c.args.items.now c.loop-item.item-index c.loop-item-test.false ∙ c.loop-item.invariant

pub have_constants-loop-field-init : goal.have_constants-loop-field-init
have_constants-loop-field-init g t c = refl

pub have_constants-loop-field-preserved : goal.have_constants-loop-field-preserved
have_constants-loop-field-preserved g t c =
    let l = c.loop-field in
    fields_pass g.S.ScalarValue.shown c.args.fields.now l.field-index c.field-item.result c.loop-field-test.true c.field-item.is
    (ap is_name (sym c.as_str.ensures.value) ∙ (sym c.is_name.ensures ∙ c.if-not-is_name.false)) (sym c.is_constant.ensures ∙ c.if-not-is_constant.false)
    ∙ l.invariant

pub have_constants-returns-then-not-is_name : goal.have_constants-returns-then-not-is_name
have_constants-returns-then-not-is_name g t c =
    let l = c.loop-field in
    names_stop g.S.ScalarValue.shown c.args.fields.now l.field-index c.field-item.result c.loop-field-test.true c.field-item.is
    (ap is_name (sym c.as_str.ensures.value) ∙ (sym c.is_name.ensures ∙ c.if-not-is_name.true)) ∙ l.invariant

pub have_constants-returns-then-not-is_constant : goal.have_constants-returns-then-not-is_constant
have_constants-returns-then-not-is_constant g t c =
    let l = c.loop-field in
    fields_stop g.S.ScalarValue.shown c.args.fields.now l.field-index c.field-item.result c.loop-field-test.true c.field-item.is
    (ap is_name (sym c.as_str.ensures.value) ∙ (sym c.is_name.ensures ∙ c.if-not-is_name.false)) (sym c.is_constant.ensures ∙ c.if-not-is_constant.true)
    ∙ l.invariant

pub have_constants-returns : goal.have_constants-returns
have_constants-returns g t c =
    fields_done g.S.ScalarValue.shown c.args.fields.now c.loop-field.field-index c.loop-field-test.false ∙ c.loop-field.invariant

pub have_constants-is_constant-requires : goal.have_constants-is_constant-requires
have_constants-is_constant-requires g t c κs within = (
  let size = the_size g.row.S g.S.laws in
      let most_of = (weighed-InputValue-Object-0-at-4 g.row.S.Denot).weight _ size in
      let at = at_most most_of c.args.fields.now c.loop-field.field-index c.field-item.result (omega arith) in
      let same : most_of c.field-item.result ≡ most_of (get_or c.args.fields.now c.loop-field.field-index c.field-item.result) = ap most_of c.field-item.is in
      omega (arith, c.decreases, at, same),
  search rules,
)
