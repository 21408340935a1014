use denote.Param.Weighed.{at_most}
use Rattle.std.proofs.Common.{◌≡◌, ◌++◌, get_or, refl, sym, ap, ◌∙◌, arith, rules}
use Rattle.juniper_syntax.proofs.input.InputValue.TheLaws.{the_size}
use Rattle.juniper_syntax.specs.declared.input.InputValue.TheShapes.{weighed-InputValue-Object-0-at-4}
use Rattle.std.proofs.lemmas.List.{append_assoc, append-nil}
use Rattle.juniper_syntax.specs.InputView.{view_input, view_items, view_fields}
use Rattle.juniper_syntax.proofs.Inputs.{view-Null, view-Scalar, view-Enum, view-Variable, view-List, view-Object}
use Rattle.juniper_written.proofs.Lists.{flat-next, flat-all}
use Rattle.juniper_explain.specs.Explanations.{view_explanations}
use Rattle.juniper_explain.specs.Nodes.{repeated_fields, repeated_in_items, repeated_in_values, repeated_within}
use Rattle.juniper_explain.proofs.InputFields.{within_item, within_field, items-are, fields-are}
use Rattle.juniper_explain.proofs.input_fields.+repeating.Goals as goal

pub explain_in_value-returns-in-Null : goal.explain_in_value-returns-in-Null
unfolding repeated_within
explain_in_value-returns-in-Null g t c =
    let shown = g.S.ScalarValue.shown in
    let old = view_explanations c.args.explanations.now.items in
    sym (append-nil old) ∙ ap (λ v. old ++ repeated_within v) (sym (ap (view_input shown) c.in-Null.is ∙ view-Null shown))

pub explain_in_value-returns-in-Scalar : goal.explain_in_value-returns-in-Scalar
unfolding repeated_within
explain_in_value-returns-in-Scalar g t c =
    let shown = g.S.ScalarValue.shown in
    let old = view_explanations c.args.explanations.now.items in
    sym (append-nil old) ∙ ap (λ v. old ++ repeated_within v) (sym (ap (view_input shown) c.in-Scalar.is ∙ view-Scalar shown c.in-Scalar.field-0))

pub explain_in_value-returns-in-Enum : goal.explain_in_value-returns-in-Enum
unfolding repeated_within
explain_in_value-returns-in-Enum g t c =
    let shown = g.S.ScalarValue.shown in
    let old = view_explanations c.args.explanations.now.items in
    sym (append-nil old) ∙ ap (λ v. old ++ repeated_within v) (sym (ap (view_input shown) c.in-Enum.is ∙ view-Enum shown c.in-Enum.field-0))

pub explain_in_value-returns-in-Variable : goal.explain_in_value-returns-in-Variable
unfolding repeated_within
explain_in_value-returns-in-Variable g t c =
    let shown = g.S.ScalarValue.shown in
    let old = view_explanations c.args.explanations.now.items in
    sym (append-nil old) ∙ ap (λ v. old ++ repeated_within v) (sym (ap (view_input shown) c.in-Variable.is ∙ view-Variable shown c.in-Variable.field-0))

pub explain_in_value-returns-in_ok-explain_in_items-in-List : goal.explain_in_value-returns-in_ok-explain_in_items-in-List
unfolding repeated_within
explain_in_value-returns-in_ok-explain_in_items-in-List g t c =
    let shown = g.S.ScalarValue.shown in
    let old = view_explanations c.args.explanations.now.items in
    c.in_ok-explain_in_items-in-List.ensures ∙ (ap (λ vs. old ++ repeated_in_items (view_items shown vs)) c.as_slice.ensures.value
    ∙ ap (λ v. old ++ repeated_within v) (sym (ap (view_input shown) c.in-List.is ∙ view-List shown c.in-List.items)))

pub explain_in_value-returns-in_ok-explain_in_fields-in-Object : goal.explain_in_value-returns-in_ok-explain_in_fields-in-Object
unfolding repeated_within
explain_in_value-returns-in_ok-explain_in_fields-in-Object g t c =
    let shown = g.S.ScalarValue.shown in
    let old = view_explanations c.args.explanations.now.items in
    let fs = view_fields shown c.as_slice-inside.result.now in
    c.in_ok-explain_in_fields-in-Object.ensures ∙ (ap (λ l. l ++ repeated_in_values fs) c.in_ok-explain_names-in-Object.ensures
    ∙ (append_assoc old (repeated_fields fs) (repeated_in_values fs)
    ∙ (ap (λ vs. old ++ (repeated_fields (view_fields shown vs) ++ repeated_in_values (view_fields shown vs))) c.as_slice-inside.ensures.value
    ∙ ap (λ v. old ++ repeated_within v) (sym (ap (view_input shown) c.in-Object.is ∙ view-Object shown c.in-Object.fields)))))

pub explain_in_items-loop-item-init : goal.explain_in_items-loop-item-init
explain_in_items-loop-item-init g t c = refl

pub explain_in_items-loop-item-preserved : goal.explain_in_items-loop-item-preserved
explain_in_items-loop-item-preserved g t c =
    let l = c.loop-item in
    flat-next (within_item g.S.ScalarValue.shown) c.args.items.now (view_explanations c.args.explanations.now.items) l.item-index c.item-item.result
    (view_explanations l.explanations.items) (view_explanations c.explain_in_value.new.explanations.items)
    c.loop-item-test.true c.item-item.is l.invariant c.in_ok-explain_in_value.ensures

pub explain_in_items-returns : goal.explain_in_items-returns
explain_in_items-returns g t c =
    let shown = g.S.ScalarValue.shown in
    let old = view_explanations c.args.explanations.now.items in
    flat-all (within_item shown) c.args.items.now old c.loop-item.item-index (view_explanations c.loop-item.explanations.items) c.loop-item-test.false
    c.loop-item.invariant
    ∙ ap (λ l. old ++ l) (items-are shown c.args.items.now)

pub explain_in_fields-loop-field-init : goal.explain_in_fields-loop-field-init
explain_in_fields-loop-field-init g t c = refl

pub explain_in_fields-loop-field-preserved : goal.explain_in_fields-loop-field-preserved
explain_in_fields-loop-field-preserved g t c =
    let l = c.loop-field in
    flat-next (within_field g.S.ScalarValue.shown) c.args.fields.now (view_explanations c.args.explanations.now.items) l.field-index c.field-item.result
    (view_explanations l.explanations.items) (view_explanations c.explain_in_value.new.explanations.items)
    c.loop-field-test.true c.field-item.is l.invariant c.in_ok-explain_in_value.ensures

pub explain_in_fields-returns : goal.explain_in_fields-returns
explain_in_fields-returns g t c =
    let shown = g.S.ScalarValue.shown in
    let old = view_explanations c.args.explanations.now.items in
    flat-all (within_field shown) c.args.fields.now old c.loop-field.field-index
    (view_explanations c.loop-field.explanations.items) c.loop-field-test.false c.loop-field.invariant
    ∙ ap (λ l. old ++ l) (fields-are shown c.args.fields.now)

pub explain_in_fields-explain_in_value-requires : goal.explain_in_fields-explain_in_value-requires
explain_in_fields-explain_in_value-requires g t c κs within = (
  let size = the_size g.row.S g.S.laws in
      let most_of = (weighed-InputValue-Object-0-at-4 g.row.S.Denot).weight _ size in
      let at = at_most most_of c.args.fields.now c.loop-field.field-index c.field-item.result (omega arith) in
      let same : most_of c.field-item.result ≡ most_of (get_or c.args.fields.now c.loop-field.field-index c.field-item.result) = ap most_of c.field-item.is in
      omega (arith, c.decreases, at, same),
  search rules,
)
