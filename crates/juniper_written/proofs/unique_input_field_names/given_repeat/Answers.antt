use Rattle.std.proofs.Common.{map, ap, sym, ◌∙◌}
use Rattle.std.specs.List.{list_any}
use Rattle.graphql_spec.specs.Documents.{written}
use Rattle.juniper_syntax.specs.DocumentView.{view_argument, view_arguments}
use Rattle.juniper_written.proofs.Deciding.{open-first, open-next, one-passes, none-passes}
use Rattle.juniper_written.specs.FieldNames.{value_repeats_in}
use Rattle.juniper_written.proofs.unique_input_field_names.given_repeat.Goals as goal

pub loop-argument-init : goal.loop-argument-init
loop-argument-init g c = open-first (view_argument g.S.ScalarValue.shown) value_repeats_in c.deref-argument-items.result.now

pub loop-argument-preserved : goal.loop-argument-preserved
unfolding value_repeats_in
loop-argument-preserved g c =
    open-next (view_argument g.S.ScalarValue.shown) value_repeats_in c.deref-argument-items.result.now c.loop-argument.argument-index c.argument-item.result
    c.loop-argument-test.true c.argument-item.is (sym c.in_ok-value_repeats-in-Some.ensures ∙ c.if-branch.false) c.loop-argument.invariant

pub returns-then-branch : goal.returns-then-branch
unfolding written value_repeats_in
returns-then-branch g c =
    let shown = g.S.ScalarValue.shown in
    one-passes (view_argument shown) value_repeats_in c.deref-argument-items.result.now c.loop-argument.argument-index c.argument-item.result
    c.loop-argument-test.true c.argument-item.is (sym c.in_ok-value_repeats-in-Some.ensures ∙ c.if-branch.true) c.loop-argument.invariant
    ∙ (ap (λ l. list_any value_repeats_in (map (view_argument shown) l)) c.deref-argument-items.ensures.value
    ∙ ap (λ o. list_any value_repeats_in (written (view_arguments shown o))) (sym c.in-Some.is))

pub returns-after-loop-argument : goal.returns-after-loop-argument
unfolding written
returns-after-loop-argument g c =
    let shown = g.S.ScalarValue.shown in
    none-passes (view_argument shown) value_repeats_in c.deref-argument-items.result.now c.loop-argument.argument-index c.loop-argument-test.false
    c.loop-argument.invariant
    ∙ (ap (λ l. list_any value_repeats_in (map (view_argument shown) l)) c.deref-argument-items.ensures.value
    ∙ ap (λ o. list_any value_repeats_in (written (view_arguments shown o))) (sym c.in-Some.is))

pub returns-in-None : goal.returns-in-None
unfolding written
returns-in-None g c = ap (λ o. list_any value_repeats_in (written (view_arguments g.S.ScalarValue.shown o))) (sym c.in-None.is)
