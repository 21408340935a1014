use Rattle.std.proofs.Common.{map, ap, sym, ◌∙◌}
use Rattle.std.specs.List.{list_any}
use Rattle.juniper_syntax.specs.DocumentView.{view_variable}
use Rattle.juniper_written.specs.WrittenView.{view_variables}
use Rattle.juniper_written.proofs.Deciding.{open-first, open-next, one-passes, none-passes}
use Rattle.juniper_written.specs.FieldNames.{default_repeats}
use Rattle.juniper_written.proofs.unique_input_field_names.variables_repeat.Goals as goal

pub loop-variable-init : goal.loop-variable-init
loop-variable-init g c = open-first (view_variable g.S.ScalarValue.shown) default_repeats c.deref-variable-items.result.now

pub loop-variable-preserved : goal.loop-variable-preserved
unfolding default_repeats
loop-variable-preserved g c =
    open-next (view_variable g.S.ScalarValue.shown) default_repeats c.deref-variable-items.result.now c.loop-variable.variable-index c.variable-item.result
    c.loop-variable-test.true c.variable-item.is (sym c.in_ok-default_repeats-in-Some.ensures ∙ c.if-branch.false) c.loop-variable.invariant

pub returns-then-branch : goal.returns-then-branch
unfolding default_repeats
returns-then-branch g c =
    let shown = g.S.ScalarValue.shown in
    one-passes (view_variable shown) default_repeats c.deref-variable-items.result.now c.loop-variable.variable-index c.variable-item.result
    c.loop-variable-test.true c.variable-item.is (sym c.in_ok-default_repeats-in-Some.ensures ∙ c.if-branch.true) c.loop-variable.invariant
    ∙ (ap (λ l. list_any default_repeats (map (view_variable shown) l)) c.deref-variable-items.ensures.value
    ∙ ap (λ o. list_any default_repeats (view_variables shown o)) (sym c.in-Some.is))

pub returns-after-loop-variable : goal.returns-after-loop-variable
returns-after-loop-variable g c =
    let shown = g.S.ScalarValue.shown in
    none-passes (view_variable shown) default_repeats c.deref-variable-items.result.now c.loop-variable.variable-index c.loop-variable-test.false
    c.loop-variable.invariant
    ∙ (ap (λ l. list_any default_repeats (map (view_variable shown) l)) c.deref-variable-items.ensures.value
    ∙ ap (λ o. list_any default_repeats (view_variables shown o)) (sym c.in-Some.is))

pub returns-in-None : goal.returns-in-None
returns-in-None g c = ap (λ o. list_any default_repeats (view_variables g.S.ScalarValue.shown o)) (sym c.in-None.is)
