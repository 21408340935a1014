use Rattle.std.proofs.Common.{map, ap, sym, ◌∙◌}
use Rattle.graphql_spec.specs.VariableUses.{definition_of}
use Rattle.juniper_syntax.specs.DocumentView.{view_variable}
use Rattle.juniper_written.specs.WrittenView.{view_variables}
use Rattle.juniper_type_rules.specs.UsesView.{definition_at}
use Rattle.juniper_type_rules.proofs.ByName.{first-init, first-next, first-all, empty-at, none-of}
use Rattle.juniper_type_rules.proofs.defined.variables_by_name.Goals as goal

pub loop-variable-init : goal.loop-variable-init
loop-variable-init g c =
    let shown = g.S.ScalarValue.shown in
    first-init (view_variable shown) c.deref-variable-items.result.now (definition_at shown c.new-first.result)
    (λ n. empty-at shown c.new-first.result n (c.new-first.ensures n))

pub loop-variable-preserved : goal.loop-variable-preserved
loop-variable-preserved g c =
    let shown = g.S.ScalarValue.shown in
    first-next (view_variable shown) c.deref-variable-items.result.now (definition_at shown c.loop-variable.first)
    (definition_at shown c.put_variable.new.first) c.loop-variable.variable-index c.variable-item.result
    c.loop-variable-test.true c.variable-item.is c.loop-variable.invariant c.in_ok-put_variable-in-Some.ensures

pub returns-after-loop-variable : goal.returns-after-loop-variable
returns-after-loop-variable g c = λ n.
    let shown = g.S.ScalarValue.shown in
    first-all (view_variable shown) c.deref-variable-items.result.now
    (definition_at shown c.loop-variable.first) c.loop-variable.variable-index c.loop-variable-test.false c.loop-variable.invariant n
    ∙ (ap (λ l. definition_of (map (view_variable shown) l) n) c.deref-variable-items.ensures.value
    ∙ ap (λ o. definition_of (view_variables shown o) n) (sym c.in-Some.is))

pub returns-in-None : goal.returns-in-None
returns-in-None g c = λ n.
    let shown = g.S.ScalarValue.shown in
    empty-at shown c.new-first.result n (c.new-first.ensures n) ∙ (sym (none-of n) ∙ ap (λ o. definition_of (view_variables shown o) n) (sym c.in-None.is))
