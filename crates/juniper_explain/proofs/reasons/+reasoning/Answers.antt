use denote.Param.Weighed.{at_most}
use Rattle.std.proofs.Common.{◌≡◌, ◌<◌, ◌≤◌, [], ◌∷◌, ◌++◌, get_or, length, sym, ap, ap₂, ◌∙◌, arith, rules, string_bytes}
use Rattle.std.proofs.lemmas.List.{append-nil}
use Rattle.std.proofs.lemmas.Result.{on_ok_weaker}
use Rattle.graphql_spec.specs.Fields.{declaration_in}
use Rattle.graphql_spec.specs.Inputs as inputs
use Rattle.juniper_syntax.specs.InputView.{view_input, view_items, view_fields}
use Rattle.juniper_syntax.proofs.Inputs.{view-Null, view-Scalar, view-Enum, view-Variable, view-List, view-Object}
use Rattle.juniper_syntax.proofs.input.InputValue.TheLaws.{the_size}
use Rattle.juniper_syntax.specs.declared.input.InputValue.TheShapes.{weighed-InputValue-Object-0-at-4}
use Rattle.juniper_meta.specs.MetaView.{view_type}
use Rattle.juniper_schema.specs.SchemaView.{view_schema}
use Rattle.juniper_schema.proofs.Fitting.{count_is}
use Rattle.juniper_written.proofs.Lists.{flat-next, flat-all}
use Rattle.juniper_explain.specs.Reasons.{at_declaration, declared_at, field_path, item_path, undeclared_at, value_reasons}
use Rattle.juniper_explain.specs.ReasonsView.{place_text, view_messages}
use Rattle.juniper_explain.proofs.ReasonLoops.{enum-told, field_reasons, fields-are, items-all, items-next, list-told, null-told, object-told, scalar-told}
use Rattle.juniper_explain.proofs.ReasonLoops.{value-fits, variable-told, whole-list-told, whole-object-told}
use Rattle.juniper_explain.proofs.reasons.+reasoning.Goals.{explain_fields-in-Some+in_ok-explain_value-in-Some}
use Rattle.juniper_explain.proofs.reasons.+reasoning.Goals.{explain_fields-in-None+in_ok-add_undeclared-in-None}
use Rattle.juniper_explain.proofs.reasons.+reasoning.Goals as goal

pub explain_value-returns-then-fits : goal.explain_value-returns-then-fits
explain_value-returns-then-fits g t c =
    let shown = g.S.ScalarValue.shown in
    let old = view_messages c.args.messages.now.items in
    sym (append-nil old) ∙ ap (λ l. old ++ l) (sym (value-fits (view_schema shown c.args.schema.now) (view_input shown c.args.value.now)
    (view_type c.args.expected.now) (place_text c.args.place.now) (sym c.fits.ensures ∙ c.if-fits.true)))

pub explain_value-returns-in-Null : goal.explain_value-returns-in-Null
explain_value-returns-in-Null g t c =
    let shown = g.S.ScalarValue.shown in
    on_ok_weaker c.add_unfit.result (λ added. null-told _ _ _ _ _ _ _
    (ap (view_input shown) c.in-Null.is ∙ view-Null shown)
    (c.as_str-path.ensures.value ∙ c.in_ok-text.ensures) (sym c.fits.ensures ∙ c.if-fits.false) added) c.add_unfit.ensures

pub explain_value-returns-in-Scalar : goal.explain_value-returns-in-Scalar
explain_value-returns-in-Scalar g t c =
    let shown = g.S.ScalarValue.shown in
    on_ok_weaker c.add_unfit-in-Scalar.result (λ added. scalar-told _ _ _ _ _ _ _ _
    (ap (view_input shown) c.in-Scalar.is ∙ view-Scalar shown c.in-Scalar.field-0)
    (c.as_str-path.ensures.value ∙ c.in_ok-text.ensures) (sym c.fits.ensures ∙ c.if-fits.false) added) c.add_unfit-in-Scalar.ensures

pub explain_value-returns-in-Enum : goal.explain_value-returns-in-Enum
explain_value-returns-in-Enum g t c =
    let shown = g.S.ScalarValue.shown in
    on_ok_weaker c.add_unfit-in-Enum.result (λ added. enum-told _ _ _ _ _ _ _ _
    (ap (view_input shown) c.in-Enum.is ∙ view-Enum shown c.in-Enum.field-0)
    (c.as_str-path.ensures.value ∙ c.in_ok-text.ensures) (sym c.fits.ensures ∙ c.if-fits.false) added) c.add_unfit-in-Enum.ensures

pub explain_value-returns-in-Variable : goal.explain_value-returns-in-Variable
explain_value-returns-in-Variable g t c =
    let shown = g.S.ScalarValue.shown in
    on_ok_weaker c.add_unfit-in-Variable.result (λ added. variable-told _ _ _ _ _ _ _ _
    (ap (view_input shown) c.in-Variable.is ∙ view-Variable shown c.in-Variable.field-0)
    (c.as_str-path.ensures.value ∙ c.in_ok-text.ensures) (sym c.fits.ensures ∙ c.if-fits.false) added) c.add_unfit-in-Variable.ensures

pub explain_value-returns-then-not-is_list : goal.explain_value-returns-then-not-is_list
explain_value-returns-then-not-is_list g t c =
    let shown = g.S.ScalarValue.shown in
    on_ok_weaker c.add_unfit-then-not-is_list.result (λ added. whole-list-told _ _ _ _ _ _ _ _
    (ap (view_input shown) c.in-List.is ∙ view-List shown c.in-List.items) (sym c.is_list.ensures ∙ c.if-not-is_list.true)
    (c.as_str-path.ensures.value ∙ c.in_ok-text.ensures) (sym c.fits.ensures ∙ c.if-fits.false) added) c.add_unfit-then-not-is_list.ensures

pub explain_value-returns-then-not-takes_fields : goal.explain_value-returns-then-not-takes_fields
explain_value-returns-then-not-takes_fields g t c =
    let shown = g.S.ScalarValue.shown in
    on_ok_weaker c.add_unfit-then-not-takes_fields.result (λ added. whole-object-told _ _ _ _ _ _ _ _
    (ap (view_input shown) c.in-Object.is ∙ view-Object shown c.in-Object.fields) (sym c.takes_fields.ensures ∙ c.if-not-takes_fields.true)
    (c.as_str-path.ensures.value ∙ c.in_ok-text.ensures) (sym c.fits.ensures ∙ c.if-fits.false) added) c.add_unfit-then-not-takes_fields.ensures

pub explain_value-returns-in-List : goal.explain_value-returns-in-List
explain_value-returns-in-List g t c =
    let shown = g.S.ScalarValue.shown in
    let parts = c.as_slice-parts.result.now in
    list-told _ _ _ _ _ _ _ (view_items shown parts) (length parts) (view_type c.item_type.result.now) (view_messages c.add_wrong_size.new.messages.items)
    (ap (view_input shown) c.in-List.is ∙ (view-List shown c.in-List.items ∙ ap (λ vs. inputs.list (view_items shown vs)) (sym c.as_slice-parts.ensures.value)))
    (sym c.is_list.ensures ∙ c.if-not-is_list.false) (c.as_str-path.ensures.value ∙ c.in_ok-text.ensures) (sym c.fits.ensures ∙ c.if-fits.false)
    (count_is shown parts) c.item_type.ensures c.in_ok-add_wrong_size-in-List.ensures c.in_ok-explain_items-in-List.ensures

pub explain_value-returns : goal.explain_value-returns
explain_value-returns g t c =
    let shown = g.S.ScalarValue.shown in
    object-told _ _ _ _ _ _ _ (view_fields shown c.as_slice-inside.result.now) (view_messages c.add_repeated.new.messages.items)
    (view_messages c.explain_fields.new.messages.items)
    (ap (view_input shown) c.in-Object.is ∙ (view-Object shown c.in-Object.fields
    ∙ ap (λ vs. inputs.object (view_fields shown vs)) (sym c.as_slice-inside.ensures.value)))
    (sym c.takes_fields.ensures ∙ c.if-not-takes_fields.false) (c.as_str-path.ensures.value ∙ c.in_ok-text.ensures) (sym c.fits.ensures ∙ c.if-fits.false)
    c.in_ok-add_repeated-in-Object.ensures c.in_ok-explain_fields-in-Object.ensures c.in_ok-add_missing-in-Object.ensures

pub explain_items-loop-index-preserved : goal.explain_items-loop-index-preserved
unfolding place_text
explain_items-loop-index-preserved g t c =
    let shown = g.S.ScalarValue.shown in
    let l = c.loop-index in
    let below : l.index < length c.args.items.now = omega (arith, c.loop-index-test.true) in
    let ys = view_messages l.messages.items in
    items-next shown (view_schema shown c.args.schema.now) (view_type c.args.expected.now) c.args.path.now c.args.items.now
    (view_messages c.args.messages.now.items) l.index c.index-items-index.result (view_messages l.messages.items)
    (view_messages c.explain_value.new.messages.items) below c.index-items-index.is l.invariant
    (c.in_ok-explain_value.ensures
    ∙ ap (λ x. ys ++ value_reasons (view_schema shown c.args.schema.now) (view_input shown x.item) (view_type c.args.expected.now)
    (item_path c.args.path.now l.index)) (sym c.index-items-index.is))

pub explain_items-returns : goal.explain_items-returns
explain_items-returns g t c =
    let shown = g.S.ScalarValue.shown in
    let l = c.loop-index in
    let past : length c.args.items.now ≤ l.index = omega (arith, c.loop-index-test.false) in
    items-all shown (view_schema shown c.args.schema.now) (view_type c.args.expected.now) c.args.path.now c.args.items.now
    (view_messages c.args.messages.now.items) l.index (view_messages l.messages.items) past l.invariant

pub explain_fields-loop-field-preserved : goal.explain_fields-loop-field-preserved
unfolding place_text at_declaration declared_at
explain_fields-loop-field-preserved g t c =
    let shown = g.S.ScalarValue.shown in
    let s = view_schema shown c.args.schema.now in
    let u = view_type c.args.expected.now in
    let p = c.args.path.now in
    let l = c.loop-field in
    let x = c.field-item.result in
    let k = string_bytes x.0.item in
    let ys = view_messages l.messages.items in
    let made = view_messages c.match-find_argument.messages.items in
    let at = at_declaration (undeclared_at s k u p) (λ w. value_reasons s (view_input shown x.1.item) w (field_path p k)) in
    let found = ap₂ declaration_in c.input_fields.ensures c.as_str-name.ensures.value in
    let added : made ≡ ys ++ field_reasons shown s u p x = elim c.match-find_argument.branch [
      | explain_fields-in-Some+in_ok-explain_value-in-Some w ↦ ap (λ m. view_messages m.items) w.messages-is
          ∙ (w.in_ok-explain_value-in-Some.ensures
          ∙ (ap (λ n. ys ++ value_reasons s (view_input shown x.1.item) (view_type w.in-Some.declared.now.arg_type) (field_path p n))
          c.as_str-name.ensures.value
          ∙ ap (λ o. ys ++ at o) (w.in-Some.ensures ∙ found)))
      | explain_fields-in-None+in_ok-add_undeclared-in-None w ↦ ap (λ m. view_messages m.items) w.messages-is
          ∙ (w.in_ok-add_undeclared-in-None.ensures
          ∙ (ap (λ n. ys ++ undeclared_at s n u p ∷ []) c.as_str-name.ensures.value
          ∙ ap (λ o. ys ++ at o) (w.in-None.ensures ∙ found)))
    ] in
    flat-next (field_reasons shown s u p) c.args.fields.now (view_messages c.args.messages.now.items) l.field-index x ys made
    c.loop-field-test.true c.field-item.is l.invariant added

pub explain_fields-returns : goal.explain_fields-returns
explain_fields-returns g t c =
    let shown = g.S.ScalarValue.shown in
    let s = view_schema shown c.args.schema.now in
    let u = view_type c.args.expected.now in
    let old = view_messages c.args.messages.now.items in
    flat-all (field_reasons shown s u c.args.path.now) c.args.fields.now old c.loop-field.field-index (view_messages c.loop-field.messages.items)
    c.loop-field-test.false c.loop-field.invariant
    ∙ ap (λ l. old ++ l) (fields-are shown s u c.args.path.now c.args.fields.now)

pub explain_fields-explain_value-requires : goal.explain_fields-explain_value-requires
explain_fields-explain_value-requires g t c κs within = (
  let size = the_size g.row.S g.S.laws in
      let most_of = (weighed-InputValue-Object-0-at-4 g.row.S.Denot).weight _ size in
      let at = at_most most_of c.args.fields.now c.loop-field.field-index c.field-item.result (omega arith) in
      let same : most_of c.field-item.result ≡ most_of (get_or c.args.fields.now c.loop-field.field-index c.field-item.result) = ap most_of c.field-item.is in
      omega (arith, at, same),
  search rules,
)
