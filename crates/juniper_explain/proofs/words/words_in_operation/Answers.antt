use Rattle.std.proofs.Common.{ap}
use Rattle.juniper_syntax.specs.DocumentView.{view_operation, view_selections}
use Rattle.juniper_explain.specs.Words.{view_marked}
use Rattle.juniper_explain.proofs.Marking.{operation-words}
use Rattle.juniper_explain.proofs.words.words_in_operation.Goals as goal

pub returns : goal.returns
returns g c =
    let shown = g.S.ScalarValue.shown in
    operation-words (view_operation shown c.args.operation.now) (view_marked c.no_words-words.result) (view_marked c.mark_selections.new.words)
    (view_selections shown c.as_slice.result.now) c.no_words-words.ensures (ap (view_selections shown) c.as_slice.ensures.value)
    c.in_ok-mark_selections.ensures
