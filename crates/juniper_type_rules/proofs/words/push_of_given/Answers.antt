use Rattle.std.proofs.Common.{map, refl, ap, sym, ◌∙◌, ◌++◌}
use Rattle.std.proofs.lemmas.List.{append-nil}
use Rattle.std.specs.List.{flat_map}
use Rattle.graphql_spec.specs.Documents.{written}
use Rattle.juniper_type_rules.specs.Variables.{words_given}
use Rattle.juniper_syntax.specs.DocumentView.{view_argument, view_arguments, view_word}
use Rattle.juniper_written.proofs.Lists.{flat-next, flat-all, flat-seen}
use Rattle.juniper_type_rules.proofs.words.push_of_given.Goals as goal

pub loop-argument-init : goal.loop-argument-init
loop-argument-init g c = refl

pub loop-argument-preserved : goal.loop-argument-preserved
unfolding words_given
loop-argument-preserved g c =
    let shown = g.S.ScalarValue.shown in
    let l = c.loop-argument in
    flat-next (λ a. words_given (view_argument shown a)) c.deref-argument-items.result.now
    (map view_word c.args.words.now.items) l.argument-index c.argument-item.result
    (map view_word l.words.items) (map view_word c.push_of_value.new.words.items) c.loop-argument-test.true c.argument-item.is l.invariant
    c.in_ok-push_of_value-in-Some.ensures

pub returns-after-loop-argument : goal.returns-after-loop-argument
unfolding written words_given
returns-after-loop-argument g c =
    let shown = g.S.ScalarValue.shown in
    let old = map view_word c.args.words.now.items in
    flat-all (λ a. words_given (view_argument shown a)) c.deref-argument-items.result.now old c.loop-argument.argument-index
    (map view_word c.loop-argument.words.items) c.loop-argument-test.false c.loop-argument.invariant
    ∙ ap (λ l. old ++ l) (flat-seen (view_argument shown) words_given c.deref-argument-items.result.now
    ∙ (ap (λ l. flat_map words_given (map (view_argument shown) l)) c.deref-argument-items.ensures.value
    ∙ ap (λ o. flat_map words_given (written (view_arguments shown o))) (sym c.in-Some.is)))

pub returns-in-None : goal.returns-in-None
unfolding written words_given
returns-in-None g c =
    let shown = g.S.ScalarValue.shown in
    let old = map view_word c.args.words.now.items in
    sym (append-nil old) ∙ ap (λ o. old ++ flat_map words_given (written (view_arguments shown o))) (sym c.in-None.is)
