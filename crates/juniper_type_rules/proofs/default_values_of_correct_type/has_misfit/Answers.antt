use Rattle.std.proofs.Common.{ap, sym, ◌∙◌, map}
use Rattle.std.specs.List.{list_any}
use Rattle.juniper_schema.specs.SchemaView.{view_schema}
use Rattle.juniper_syntax.specs.DocumentView.{view_variable}
use Rattle.juniper_type_rules.specs.SetTests.{has_misfit}
use Rattle.juniper_written.proofs.Deciding.{open-first, open-next, one-passes, none-passes}
use Rattle.juniper_written.specs.WrittenView.{view_variables}
use Rattle.juniper_type_rules.proofs.default_values_of_correct_type.has_misfit.Goals as goal

pub loop-variable-init : goal.loop-variable-init
loop-variable-init g c =
    let shown = g.S.ScalarValue.shown in
    let s = view_schema shown c.args.schema.now in
    open-first (view_variable shown) (has_misfit s) c.deref-variable-items.result.now

pub loop-variable-preserved : goal.loop-variable-preserved
loop-variable-preserved g c =
    let shown = g.S.ScalarValue.shown in
    let s = view_schema shown c.args.schema.now in
    open-next (view_variable shown) (has_misfit s) c.deref-variable-items.result.now c.loop-variable.variable-index c.variable-item.result
    c.loop-variable-test.true c.variable-item.is
    (sym c.in_ok-is_misfit-in-Some.ensures ∙ c.if-branch.false) c.loop-variable.invariant

pub returns-after-loop-variable : goal.returns-after-loop-variable
returns-after-loop-variable g c =
    let shown = g.S.ScalarValue.shown in
    let s = view_schema shown c.args.schema.now in
    none-passes (view_variable shown) (has_misfit s) c.deref-variable-items.result.now c.loop-variable.variable-index c.loop-variable-test.false
    c.loop-variable.invariant
    ∙ (ap (λ l. list_any (has_misfit s) (map (view_variable shown) l)) c.deref-variable-items.ensures.value
    ∙ ap (λ o. list_any (has_misfit s) (view_variables shown o)) (sym c.in-Some.is))

pub returns-then-branch : goal.returns-then-branch
returns-then-branch g c =
    let shown = g.S.ScalarValue.shown in
    let s = view_schema shown c.args.schema.now in
    one-passes (view_variable shown) (has_misfit s) c.deref-variable-items.result.now c.loop-variable.variable-index c.variable-item.result
    c.loop-variable-test.true c.variable-item.is
    (sym c.in_ok-is_misfit-in-Some.ensures ∙ c.if-branch.true) c.loop-variable.invariant
    ∙ (ap (λ l. list_any (has_misfit s) (map (view_variable shown) l)) c.deref-variable-items.ensures.value
    ∙ ap (λ o. list_any (has_misfit s) (view_variables shown o)) (sym c.in-Some.is))

pub returns-in-None : goal.returns-in-None
returns-in-None g c =
    let shown = g.S.ScalarValue.shown in
    let s = view_schema shown c.args.schema.now in
    ap (λ o. list_any (has_misfit s) (view_variables shown o)) (sym c.in-None.is)
