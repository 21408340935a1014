use denote.Param.Weighed.{at_most}
use Rattle.std.proofs.Common.{◌≡◌, [], ◌∷◌, ◌++◌, get_or, refl, sym, ap, ◌∙◌, arith, rules, map}
use Rattle.juniper_syntax.proofs.input.InputValue.TheLaws.{the_size}
use Rattle.juniper_syntax.specs.declared.input.InputValue.TheShapes.{weighed-InputValue-Object-0-at-4}
use Rattle.std.proofs.lemmas.List.{append-nil}
use Rattle.juniper_syntax.specs.Positions.{view_span}
use Rattle.juniper_syntax.specs.DocumentView.{view_word}
use Rattle.juniper_type_rules.specs.Variables.{variable_words, words_in_items, words_in_fields}
use Rattle.juniper_syntax.specs.InputView.{view_input, view_items, view_fields}
use Rattle.juniper_syntax.proofs.Inputs.{view-Null, view-Scalar, view-Enum, view-Variable, view-List, view-Object}
use Rattle.juniper_syntax.proofs.Lists.{seen-push}
use Rattle.juniper_written.proofs.Lists.{flat-next, flat-all}
use Rattle.juniper_type_rules.proofs.WordsIn.{words_of_item, words_of_field, items-are, fields-are, same-word}
use Rattle.juniper_type_rules.proofs.words.+naming.Goals as goal

pub push_of_value-returns-in-Null : goal.push_of_value-returns-in-Null
unfolding variable_words
push_of_value-returns-in-Null g t c =
    let shown = g.S.ScalarValue.shown in
    let old = map view_word c.args.words.now.items in
    sym (append-nil old) ∙ ap (λ v. old ++ variable_words v (view_span c.args.span)) (sym (ap (view_input shown) c.in-Null.is ∙ view-Null shown))

pub push_of_value-returns-in-Scalar : goal.push_of_value-returns-in-Scalar
unfolding variable_words
push_of_value-returns-in-Scalar g t c =
    let shown = g.S.ScalarValue.shown in
    let old = map view_word c.args.words.now.items in
    sym (append-nil old) ∙ ap (λ v. old ++ variable_words v (view_span c.args.span))
    (sym (ap (view_input shown) c.in-Scalar.is ∙ view-Scalar shown c.in-Scalar.field-0))

pub push_of_value-returns-in-Enum : goal.push_of_value-returns-in-Enum
unfolding variable_words
push_of_value-returns-in-Enum g t c =
    let shown = g.S.ScalarValue.shown in
    let old = map view_word c.args.words.now.items in
    sym (append-nil old) ∙ ap (λ v. old ++ variable_words v (view_span c.args.span))
    (sym (ap (view_input shown) c.in-Enum.is ∙ view-Enum shown c.in-Enum.field-0))

pub push_of_value-returns-in_ok-push-in-Variable : goal.push_of_value-returns-in_ok-push-in-Variable
unfolding variable_words
push_of_value-returns-in_ok-push-in-Variable g t c =
    let shown = g.S.ScalarValue.shown in
    let old = map view_word c.args.words.now.items in
    seen-push view_word c.args.words.now.items c.push.new.self.items _ c.in_ok-push-in-Variable.ensures.items
    ∙ (ap (λ w. old ++ w ∷ []) (same-word _ _ _ _ (ap (λ n. n.now) c.new.ensures.item ∙ c.as_str.ensures.value) (ap view_span c.new.ensures.span))
    ∙ ap (λ v. old ++ variable_words v (view_span c.args.span)) (sym (ap (view_input shown) c.in-Variable.is ∙ view-Variable shown c.in-Variable.name)))

pub push_of_value-returns-in_ok-push_of_items-in-List : goal.push_of_value-returns-in_ok-push_of_items-in-List
unfolding variable_words
push_of_value-returns-in_ok-push_of_items-in-List g t c =
    let shown = g.S.ScalarValue.shown in
    let old = map view_word c.args.words.now.items in
    c.in_ok-push_of_items-in-List.ensures ∙ (ap (λ vs. old ++ words_in_items (view_items shown vs)) c.as_slice.ensures.value
    ∙ ap (λ v. old ++ variable_words v (view_span c.args.span)) (sym (ap (view_input shown) c.in-List.is ∙ view-List shown c.in-List.items)))

pub push_of_value-returns-in_ok-push_of_fields-in-Object : goal.push_of_value-returns-in_ok-push_of_fields-in-Object
unfolding variable_words
push_of_value-returns-in_ok-push_of_fields-in-Object g t c =
    let shown = g.S.ScalarValue.shown in
    let old = map view_word c.args.words.now.items in
    c.in_ok-push_of_fields-in-Object.ensures ∙ (ap (λ vs. old ++ words_in_fields (view_fields shown vs)) c.as_slice-in-Object.ensures.value
    ∙ ap (λ v. old ++ variable_words v (view_span c.args.span)) (sym (ap (view_input shown) c.in-Object.is ∙ view-Object shown c.in-Object.fields)))

pub push_of_items-loop-item-init : goal.push_of_items-loop-item-init
push_of_items-loop-item-init g t c = refl

pub push_of_items-loop-item-preserved : goal.push_of_items-loop-item-preserved
push_of_items-loop-item-preserved g t c =
    let l = c.loop-item in
    flat-next (words_of_item g.S.ScalarValue.shown) c.args.items.now (map view_word c.args.words.now.items) l.item-index c.item-item.result
    (map view_word l.words.items) (map view_word c.push_of_value.new.words.items)
    c.loop-item-test.true c.item-item.is l.invariant c.in_ok-push_of_value.ensures

pub push_of_items-returns : goal.push_of_items-returns
push_of_items-returns g t c =
    let shown = g.S.ScalarValue.shown in
    let old = map view_word c.args.words.now.items in
    flat-all (words_of_item shown) c.args.items.now old c.loop-item.item-index (map view_word c.loop-item.words.items)
    c.loop-item-test.false c.loop-item.invariant
    ∙ ap (λ l. old ++ l) (items-are shown c.args.items.now)

pub push_of_fields-loop-field-init : goal.push_of_fields-loop-field-init
push_of_fields-loop-field-init g t c = refl

pub push_of_fields-loop-field-preserved : goal.push_of_fields-loop-field-preserved
push_of_fields-loop-field-preserved g t c =
    let l = c.loop-field in
    flat-next (words_of_field g.S.ScalarValue.shown) c.args.fields.now (map view_word c.args.words.now.items) l.field-index c.field-item.result
    (map view_word l.words.items) (map view_word c.push_of_value.new.words.items)
    c.loop-field-test.true c.field-item.is l.invariant c.in_ok-push_of_value.ensures

pub push_of_fields-returns : goal.push_of_fields-returns
push_of_fields-returns g t c =
    let shown = g.S.ScalarValue.shown in
    let old = map view_word c.args.words.now.items in
    flat-all (words_of_field shown) c.args.fields.now old c.loop-field.field-index
    (map view_word c.loop-field.words.items) c.loop-field-test.false c.loop-field.invariant
    ∙ ap (λ l. old ++ l) (fields-are shown c.args.fields.now)

pub push_of_fields-push_of_value-requires : goal.push_of_fields-push_of_value-requires
push_of_fields-push_of_value-requires g t c κs within = (
  let size = the_size g.row.S g.S.laws in
      let most_of = (weighed-InputValue-Object-0-at-4 g.row.S.Denot).weight _ size in
      let at = at_most most_of c.args.fields.now c.loop-field.field-index c.field-item.result (omega arith) in
      let same : most_of c.field-item.result ≡ most_of (get_or c.args.fields.now c.loop-field.field-index c.field-item.result) = ap most_of c.field-item.is in
      omega (arith, c.decreases, at, same),
  search rules,
)
