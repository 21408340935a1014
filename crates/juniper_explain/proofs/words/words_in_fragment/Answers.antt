use Rattle.std.proofs.Common.{ap}
use Rattle.juniper_syntax.specs.DocumentView.{view_fragment, view_selections, view_word}
use Rattle.juniper_syntax.proofs.Lists.{seen-push}
use Rattle.juniper_explain.specs.Words.{view_marked, view_words}
use Rattle.juniper_explain.proofs.Marking.{fragment-words}
use Rattle.juniper_explain.proofs.words.words_in_fragment.Goals as goal

pub returns : goal.returns
returns g c =
    let shown = g.S.ScalarValue.shown in
    fragment-words (view_fragment shown c.args.fragment.now) (view_marked c.no_words-words.result) (view_marked c.mark_selections.new.words)
    (view_words c.push.new.self.items) (view_selections shown c.as_slice.result.now) c.no_words-words.ensures
    (seen-push view_word c.no_words-words.result.conditions.items c.push.new.self.items c.args.fragment.now.item.type_condition c.in_ok-push.ensures.items)
    (ap (view_selections shown) c.as_slice.ensures.value) c.in_ok-mark_selections.ensures
