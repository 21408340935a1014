use Rattle.std.proofs.Common.{◌≡◌, ◌+◌, ◌≤◌, Some, option_map, unwrap_or, string_bytes, get_or, drop, sym, ap, ap₂, refl, ◌∙◌, arith, rules}
use denote.Param.Weighed.{at_most}
use Rattle.graphql_spec.specs.Inputs.{null, item, field_if, const, const_items, const_fields, object, list}
use Rattle.juniper_syntax.specs.Positions.{view_span}
use Rattle.juniper_syntax.specs.InputView.{view_input, view_items, view_fields, view_variables}
use Rattle.juniper_syntax.proofs.Inputs.{view-Variable, view-List, view-Object}
use Rattle.juniper_syntax.proofs.InputLists.{append_items, append_fields, items_turn, items_end, fields_turn, fields_skip, fields_end}
use Rattle.juniper_syntax.proofs.input.InputValue.TheLaws.{the_size}
use Rattle.juniper_syntax.specs.declared.input.InputValue.TheShapes.{weighed-InputValue-Object-0-at-4}
use Rattle.juniper_syntax.proofs.input.+into_const.Goals as goal
use Rattle.juniper_syntax.proofs.input.+into_const.Goals.{const_fields-in-Some+in_ok-name+in_ok-push, const_fields-in_default}

pub InputValue::into_const-returns-in_ok-try_clone-in-Some : goal.InputValue::into_const-returns-in_ok-try_clone-in-Some
unfolding const
InputValue::into_const-returns-in_ok-try_clone-in-Some g t c =
    let shown = g.S.ScalarValue.shown in
    let vars = view_variables shown c.args.variables.now in
    let seen = ap (view_input shown) c.in-Variable.is ∙ view-Variable shown c.in-Variable.name in
    let found = c.in-Some.ensures.value in
    let named = c.as_str.ensures.value in
    ap Some c.in_ok-try_clone-in-Some.ensures ∙ ap (option_map (view_input shown)) found ∙ rw named (ap (const vars) (sym seen))

pub InputValue::into_const-returns-in_ok-const_fields-in-Object : goal.InputValue::into_const-returns-in_ok-const_fields-in-Object
unfolding const
InputValue::into_const-returns-in_ok-const_fields-in-Object g t c =
    let shown = g.S.ScalarValue.shown in
    let vars = view_variables shown c.args.variables.now in
    let seen = ap (view_input shown) c.in-Object.is ∙ view-Object shown c.in-Object.fields in
    ap Some (view-Object shown c.in_ok-const_fields-in-Object.field-0
    ∙ ap object (c.in_ok-const_fields-in-Object.ensures ∙ ap (λ vs. const_fields vars (view_fields shown vs)) c.as_slice-in-Object.ensures.value))
    ∙ ap (const vars) (sym seen)

pub const_items-loop-item-preserved : goal.const_items-loop-item-preserved
unfolding const
const_items-loop-item-preserved g t c =
    let shown = g.S.ScalarValue.shown in
    let vars = view_variables shown c.args.variables.now in
    let l = c.loop-item in
    let x = c.item-item.result in
    let rest = const_items vars (view_items shown (drop (l.item-index + 1) c.args.items.now)) in
    items_turn shown (const_items vars) c.args.items.now l.made.items c.push.new.self.items l.item-index x c.or_null-value.result c.in_ok-push.ensures.items
    (omega arith) c.item-item.is
    (ap (λ v. item v (view_span x.span) rest) (sym (c.or_null-value.ensures ∙ ap (λ o. unwrap_or o null) c.in_ok-into_const.ensures)))
    ∙ l.invariant

pub const_items-returns : goal.const_items-returns
unfolding const
const_items-returns g t c =
    let shown = g.S.ScalarValue.shown in
    items_end shown (const_items (view_variables shown c.args.variables.now)) c.args.items.now c.loop-item.made.items c.loop-item.item-index (omega arith) refl
    ∙ c.loop-item.invariant

pub const_fields-loop-field-preserved : goal.const_fields-loop-field-preserved
unfolding const field_if
const_fields-loop-field-preserved g t c =
    let shown = g.S.ScalarValue.shown in
    let vars = view_variables shown c.args.variables.now in
    let l = c.loop-field in
    let x = c.field-item.result in
    let rest = const_fields vars (view_fields shown (drop (l.field-index + 1) c.args.fields.now)) in
    let value = c.in_ok-value.ensures ∙ ap (λ v. const vars (view_input shown v)) c.value_of.ensures in
    elim c.match-branch-3.branch [
      | const_fields-in-Some+in_ok-name+in_ok-push w ↦
          let kept = ap (option_map (view_input shown)) (sym w.in-Some.is) ∙ value in
          let k = sym (w.in_ok-name.ensures.ok ∙ w.as_str.ensures.value) in
          fields_turn shown (const_fields vars) c.args.fields.now l.made.items c.match-branch-3.made.items l.field-index x w.in_ok-name.name w.in-Some.value
          (ap (λ o. o.items) w.made-is ∙ w.in_ok-push.ensures.items) (omega arith) c.field-item.is
          (ap₂ (λ k o. field_if k (view_span x.0.span) o (view_span x.1.span) rest) k (sym kept))
          ∙ l.invariant
      | const_fields-in_default w ↦
          let gone = ap (option_map (view_input shown)) (sym w.in_default.is) ∙ value in
          rw w.made-is (fields_skip shown (const_fields vars) c.args.fields.now l.made.items l.field-index x (omega arith) c.field-item.is
          (ap (λ o. field_if (string_bytes x.0.item) (view_span x.0.span) o (view_span x.1.span) rest) (sym gone))
          ∙ l.invariant)
    ]

pub const_fields-returns : goal.const_fields-returns
unfolding const
const_fields-returns g t c =
    let shown = g.S.ScalarValue.shown in
    fields_end shown (const_fields (view_variables shown c.args.variables.now)) c.args.fields.now c.loop-field.made.items c.loop-field.field-index
    (omega arith) refl ∙ c.loop-field.invariant

pub const_fields-into_const-requires : goal.const_fields-into_const-requires
unfolding const
const_fields-into_const-requires g t c κs within = (
  let size = the_size g.row.S g.S.laws in
      let most_of = (weighed-InputValue-Object-0-at-4 g.row.S.Denot).weight _ size in
      let at = at_most most_of c.args.fields.now c.loop-field.field-index c.field-item.result (omega arith) in
      let one : size c.value_of.result.now ≤ most_of c.field-item.result = rw c.value_of.ensures (omega arith) in
      let same : most_of c.field-item.result ≡ most_of (get_or c.args.fields.now c.loop-field.field-index c.field-item.result) = ap most_of c.field-item.is in
      omega (arith, c.decreases, at, one, same),
  search rules,
)

pub InputValue::into_const-returns-in-None : goal.InputValue::into_const-returns-in-None
unfolding const
InputValue::into_const-returns-in-None g t c =
    let shown = g.S.ScalarValue.shown in
    let vars = view_variables shown c.args.variables.now in
    let seen = ap (view_input shown) c.in-Variable.is ∙ view-Variable shown c.in-Variable.name in
    let named = c.as_str.ensures.value in
    ap (option_map (view_input shown)) c.in-None.ensures.value ∙ rw named (ap (const vars) (sym seen))

pub InputValue::into_const-returns-in_ok-const_items-in-List : goal.InputValue::into_const-returns-in_ok-const_items-in-List
unfolding const
InputValue::into_const-returns-in_ok-const_items-in-List g t c =
    let shown = g.S.ScalarValue.shown in
    let vars = view_variables shown c.args.variables.now in
    let seen = ap (view_input shown) c.in-List.is ∙ view-List shown c.in-List.items in
    ap Some (view-List shown c.in_ok-const_items-in-List.field-0 ∙ ap list
    (c.in_ok-const_items-in-List.ensures ∙ ap (λ vs. const_items vars (view_items shown vs)) c.as_slice.ensures.value))
    ∙ ap (const vars) (sym seen)

pub const_items-loop-item-init : goal.const_items-loop-item-init
const_items-loop-item-init g t c =
    let shown = g.S.ScalarValue.shown in
    let rest = const_items (view_variables shown c.args.variables.now) (view_items shown c.args.items.now) in
    ap (λ vs. append_items (view_items shown vs) rest) c.in_ok-made.ensures.items

pub const_fields-loop-field-init : goal.const_fields-loop-field-init
const_fields-loop-field-init g t c =
    let shown = g.S.ScalarValue.shown in
    let rest = const_fields (view_variables shown c.args.variables.now) (view_fields shown c.args.fields.now) in
    ap (λ vs. append_fields (view_fields shown vs) rest) c.in_ok-made.ensures.items
