use Rattle.std.proofs.Common.{[], ap, map, sym, ◌++◌, ◌∙◌}
use Rattle.graphql_spec.specs.Documents.{written}
use Rattle.juniper_syntax.specs.DocumentView.{view_argument, view_arguments, view_word}
use Rattle.juniper_syntax.proofs.Lists.{seen-push}
use Rattle.juniper_written.proofs.Lists.{seen-all, seen-next, seen-twice}
use Rattle.juniper_explain.specs.Words.{view_words}
use Rattle.juniper_explain.proofs.repeats.argument_words.Goals as goal

pub loop-argument-init : goal.loop-argument-init
loop-argument-init g c =
    ap (λ l. view_words l ++ map (λ a. (view_argument g.S.ScalarValue.shown a).name) c.deref-argument-items.result.now) c.new-words.ensures.items

pub loop-argument-preserved : goal.loop-argument-preserved
loop-argument-preserved g c =
    seen-next (λ a. (view_argument g.S.ScalarValue.shown a).name) c.deref-argument-items.result.now [] c.loop-argument.argument-index c.argument-item.result
    (view_words c.loop-argument.words.items) (view_words c.push.new.self.items) c.loop-argument-test.true c.argument-item.is c.loop-argument.invariant
    (seen-push view_word c.loop-argument.words.items c.push.new.self.items _ c.in_ok-push-in-Some.ensures.items)

pub returns-after-loop-argument : goal.returns-after-loop-argument
unfolding written
returns-after-loop-argument g c =
    let shown = g.S.ScalarValue.shown in
    seen-all (λ a. (view_argument shown a).name) c.deref-argument-items.result.now [] c.loop-argument.argument-index
    (view_words c.loop-argument.words.items) c.loop-argument-test.false c.loop-argument.invariant
    ∙ (seen-twice (view_argument shown) (λ a. a.name) c.deref-argument-items.result.now
    ∙ (ap (λ l. map (λ a. a.name) (map (view_argument shown) l)) c.deref-argument-items.ensures.value
    ∙ ap (λ o. map (λ a. a.name) (written (view_arguments shown o))) (sym c.in-Some.is)))

pub returns-in-None : goal.returns-in-None
unfolding written
returns-in-None g c =
    let shown = g.S.ScalarValue.shown in
    ap view_words c.new-words.ensures.items ∙ ap (λ o. map (λ a. a.name) (written (view_arguments shown o))) (sym c.in-None.is)
