use Rattle.std.proofs.Common.{[], ◌∷◌, ap, map, ◌++◌, ◌∙◌}
use Rattle.juniper_syntax.specs.Positions.{view_span}
use Rattle.juniper_syntax.specs.DocumentView.{view_word}
use Rattle.juniper_syntax.proofs.Lists.{seen-push}
use Rattle.juniper_written.proofs.Lists.{seen-all, seen-next}
use Rattle.juniper_explain.specs.Words.{view_words}
use Rattle.juniper_explain.proofs.InputFields.{word_of_field, words-are}
use Rattle.juniper_type_rules.proofs.WordsIn.{same-word}
use Rattle.juniper_explain.proofs.input_fields.words_of_fields.Goals as goal

pub loop-field-init : goal.loop-field-init
loop-field-init g c = ap (λ l. view_words l ++ map (word_of_field g.S.ScalarValue.shown) c.args.fields.now) c.new-words.ensures.items

pub loop-field-preserved : goal.loop-field-preserved
loop-field-preserved g c =
    let before = view_words c.loop-field.words.items in
    seen-next (word_of_field g.S.ScalarValue.shown) c.args.fields.now [] c.loop-field.field-index c.field-item.result
    before (view_words c.push.new.self.items) c.loop-field-test.true c.field-item.is c.loop-field.invariant
    (seen-push view_word c.loop-field.words.items c.push.new.self.items _ c.in_ok-push.ensures.items
    ∙ ap (λ w. before ++ w ∷ []) (same-word _ _ _ _ (ap (λ n. n.now) c.new.ensures.item ∙ c.as_str.ensures.value) (ap view_span c.new.ensures.span)))

pub returns : goal.returns
returns g c =
    let shown = g.S.ScalarValue.shown in
    seen-all (word_of_field shown) c.args.fields.now [] c.loop-field.field-index
    (view_words c.loop-field.words.items) c.loop-field-test.false c.loop-field.invariant
    ∙ words-are shown c.args.fields.now
