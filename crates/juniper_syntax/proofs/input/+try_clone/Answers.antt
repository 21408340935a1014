use Rattle.std.proofs.Common.{◌≡◌, ◌+◌, drop, sym, ap, ap₂, refl, ◌∙◌, arith, rules}
use denote.Param.Weighed.{at_most}
use Rattle.std.proofs.Common.{◌≤◌, get_or}
use Rattle.juniper_syntax.proofs.input.InputValue.TheLaws.{the_size}
use Rattle.juniper_syntax.specs.declared.input.InputValue.TheShapes.{weighed-InputValue-Object-0-at-4}
use Rattle.graphql_spec.specs.Inputs.{item, input_field, scalar, enumerated, variable, list}
use Rattle.juniper_syntax.specs.Positions.{view_span}
use Rattle.juniper_syntax.specs.InputView.{view_input, view_items, view_fields}
use Rattle.juniper_syntax.proofs.Inputs.{view-Scalar, view-Enum, view-Variable, view-List, view-Object}
use Rattle.juniper_syntax.proofs.InputLists.{append_items, append_fields, items_turn, items_end, fields_turn, fields_end}
use Rattle.juniper_syntax.proofs.input.+try_clone.Goals as goal

pub InputValue::try_clone-returns-in_ok-clone_fields-in-Object :
    goal.InputValue::try_clone-returns-in_ok-clone_fields-in-Object
InputValue::try_clone-returns-in_ok-clone_fields-in-Object g t c =
    let shown = g.S.ScalarValue.shown in
    let seen = ap (view_input shown) c.in-Object.is ∙ view-Object shown c.in-Object.fields in
    view-Object shown c.in_ok-clone_fields-in-Object.field-0 ∙ rw (c.in_ok-clone_fields-in-Object.ensures, c.as_slice-in-Object.ensures.value) (sym seen)

pub clone_items-loop-item-preserved : goal.clone_items-loop-item-preserved
clone_items-loop-item-preserved g t c =
    let shown = g.S.ScalarValue.shown in
    let l = c.loop-item in
    let rest = view_items shown (drop (l.item-index + 1) c.args.items.now) in
    items_turn shown (λ is. is) c.args.items.now l.made.items c.push.new.self.items l.item-index c.item-item.result c.in_ok-copy.copy c.in_ok-push.ensures.items
    (omega arith) c.item-item.is
    (ap (λ v. item v (view_span c.item-item.result.span) rest) (sym c.in_ok-copy.ensures))
    ∙ l.invariant

pub clone_items-returns : goal.clone_items-returns
clone_items-returns g t c =
    items_end g.S.ScalarValue.shown (λ is. is) c.args.items.now c.loop-item.made.items c.loop-item.item-index (omega arith) refl ∙ c.loop-item.invariant

pub clone_fields-loop-field-preserved : goal.clone_fields-loop-field-preserved
clone_fields-loop-field-preserved g t c =
    let shown = g.S.ScalarValue.shown in
    let l = c.loop-field in
    let x = c.field-item.result in
    let rest = view_fields shown (drop (l.field-index + 1) c.args.fields.now) in
    fields_turn shown (λ fs. fs) c.args.fields.now l.made.items c.push.new.self.items l.field-index x c.in_ok-name.name c.in_ok-copy.copy
    c.in_ok-push.ensures.items (omega arith) c.field-item.is
    (ap₂ (λ k v. input_field k (view_span x.0.span) v (view_span x.1.span) rest) (sym (c.in_ok-name.ensures.ok ∙ c.as_str.ensures.value))
    (sym (c.in_ok-copy.ensures ∙ ap (view_input shown) c.value_of.ensures)))
    ∙ l.invariant

pub clone_fields-returns : goal.clone_fields-returns
clone_fields-returns g t c =
    fields_end g.S.ScalarValue.shown (λ fs. fs) c.args.fields.now c.loop-field.made.items c.loop-field.field-index (omega arith) refl ∙ c.loop-field.invariant

pub clone_fields-try_clone-requires : goal.clone_fields-try_clone-requires
clone_fields-try_clone-requires g t c κs within = (
  let size = the_size g.row.S g.S.laws in
      let most_of = (weighed-InputValue-Object-0-at-4 g.row.S.Denot).weight _ size in
      let at = at_most most_of c.args.fields.now c.loop-field.field-index c.field-item.result (omega arith) in
      let one : size c.value_of.result.now ≤ most_of c.field-item.result = rw c.value_of.ensures (omega arith) in
      let same : most_of c.field-item.result ≡ most_of (get_or c.args.fields.now c.loop-field.field-index c.field-item.result) = ap most_of c.field-item.is in
      omega (arith, c.decreases, at, one, same),
  search rules,
)

pub InputValue::try_clone-returns-in-Null : goal.InputValue::try_clone-returns-in-Null
InputValue::try_clone-returns-in-Null g t c = sym (ap (view_input g.S.ScalarValue.shown) c.in-Null.is)

pub InputValue::try_clone-returns-in_ok-try_clone-in-Scalar : goal.InputValue::try_clone-returns-in_ok-try_clone-in-Scalar
InputValue::try_clone-returns-in_ok-try_clone-in-Scalar g t c =
    let shown = g.S.ScalarValue.shown in
    let seen = ap (view_input shown) c.in-Scalar.is ∙ view-Scalar shown c.in-Scalar.scalar in
    view-Scalar shown c.in_ok-try_clone-in-Scalar.field-0 ∙ ap scalar c.in_ok-try_clone-in-Scalar.ensures ∙ sym seen

pub InputValue::try_clone-returns-in_ok-from_str-in-Enum : goal.InputValue::try_clone-returns-in_ok-from_str-in-Enum
InputValue::try_clone-returns-in_ok-from_str-in-Enum g t c =
    let shown = g.S.ScalarValue.shown in
    let seen = ap (view_input shown) c.in-Enum.is ∙ view-Enum shown c.in-Enum.name in
    view-Enum shown c.in_ok-from_str-in-Enum.field-0 ∙ ap enumerated (c.in_ok-from_str-in-Enum.ensures.ok ∙ c.as_str.ensures.value) ∙ sym seen

pub InputValue::try_clone-returns-in_ok-from_str-in-Variable : goal.InputValue::try_clone-returns-in_ok-from_str-in-Variable
InputValue::try_clone-returns-in_ok-from_str-in-Variable g t c =
    let shown = g.S.ScalarValue.shown in
    let seen = ap (view_input shown) c.in-Variable.is ∙ view-Variable shown c.in-Variable.name in
    view-Variable shown c.in_ok-from_str-in-Variable.field-0 ∙ ap variable (c.in_ok-from_str-in-Variable.ensures.ok ∙ c.as_str-in-Variable.ensures.value)
    ∙ sym seen

pub InputValue::try_clone-returns-in_ok-clone_items-in-List : goal.InputValue::try_clone-returns-in_ok-clone_items-in-List
InputValue::try_clone-returns-in_ok-clone_items-in-List g t c =
    let shown = g.S.ScalarValue.shown in
    let seen = ap (view_input shown) c.in-List.is ∙ view-List shown c.in-List.items in
    view-List shown c.in_ok-clone_items-in-List.field-0 ∙ ap list (c.in_ok-clone_items-in-List.ensures ∙ ap (view_items shown) c.as_slice.ensures.value)
    ∙ sym seen

pub clone_items-loop-item-init : goal.clone_items-loop-item-init
clone_items-loop-item-init g t c =
    let shown = g.S.ScalarValue.shown in
    ap (λ vs. append_items (view_items shown vs) (view_items shown c.args.items.now)) c.in_ok-made.ensures.items

pub clone_fields-loop-field-init : goal.clone_fields-loop-field-init
clone_fields-loop-field-init g t c =
    let shown = g.S.ScalarValue.shown in
    ap (λ vs. append_fields (view_fields shown vs) (view_fields shown c.args.fields.now)) c.in_ok-made.ensures.items
