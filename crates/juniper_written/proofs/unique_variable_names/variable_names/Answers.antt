use Rattle.std.proofs.Common.{map, [], ◌++◌, ap, sym, ◌∙◌}
use Rattle.juniper_syntax.specs.DocumentView.{view_variable}
use Rattle.juniper_syntax.proofs.Lists.{seen-push}
use Rattle.juniper_written.specs.WrittenView.{view_names, view_variables}
use Rattle.juniper_written.proofs.Lists.{seen-next, seen-all, seen-twice}
use Rattle.juniper_written.proofs.unique_variable_names.variable_names.Goals as goal

pub loop-variable-init : goal.loop-variable-init
loop-variable-init g c =
    ap (λ l. view_names l ++ map (λ v. (view_variable g.S.ScalarValue.shown v).name.item) c.deref-variable-items.result.now) c.new-names.ensures.items

pub loop-variable-preserved : goal.loop-variable-preserved
loop-variable-preserved g c =
    let shown = g.S.ScalarValue.shown in
    seen-next (λ v. (view_variable shown v).name.item) c.deref-variable-items.result.now [] c.loop-variable.variable-index c.variable-item.result
    (view_names c.loop-variable.names.items) (view_names c.push.new.self.items)
    c.loop-variable-test.true c.variable-item.is c.loop-variable.invariant
    (seen-push (λ n. n.now) c.loop-variable.names.items c.push.new.self.items _ c.in_ok-push-in-Some.ensures.items)

pub returns-after-loop-variable : goal.returns-after-loop-variable
returns-after-loop-variable g c =
    let shown = g.S.ScalarValue.shown in
    seen-all (λ v. (view_variable shown v).name.item) c.deref-variable-items.result.now [] c.loop-variable.variable-index
    (view_names c.loop-variable.names.items) c.loop-variable-test.false c.loop-variable.invariant
    ∙ (seen-twice (view_variable shown) (λ v. v.name.item) c.deref-variable-items.result.now
    ∙ (ap (λ l. map (λ v. v.name.item) (map (view_variable shown) l)) c.deref-variable-items.ensures.value
    ∙ ap (λ o. map (λ v. v.name.item) (view_variables shown o)) (sym c.in-Some.is)))
