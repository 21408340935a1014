use Rattle.std.proofs.Common.{map, [], ◌++◌, ap, sym, ◌∙◌}
use Rattle.graphql_spec.specs.Documents.{written}
use Rattle.juniper_syntax.specs.DocumentView.{view_argument, view_arguments}
use Rattle.juniper_syntax.proofs.Lists.{seen-push}
use Rattle.juniper_written.specs.WrittenView.{view_names}
use Rattle.juniper_written.proofs.Lists.{seen-next, seen-all, seen-twice}
use Rattle.juniper_written.proofs.unique_argument_names.argument_names.Goals as goal

pub loop-argument-init : goal.loop-argument-init
loop-argument-init g c =
    ap (λ l. view_names l ++ map (λ a. (view_argument g.S.ScalarValue.shown a).name.item) c.deref-argument-items.result.now) c.new-names.ensures.items

pub loop-argument-preserved : goal.loop-argument-preserved
loop-argument-preserved g c =
    let shown = g.S.ScalarValue.shown in
    seen-next (λ a. (view_argument shown a).name.item) c.deref-argument-items.result.now [] c.loop-argument.argument-index c.argument-item.result
    (view_names c.loop-argument.names.items) (view_names c.push.new.self.items)
    c.loop-argument-test.true c.argument-item.is c.loop-argument.invariant
    (seen-push (λ n. n.now) c.loop-argument.names.items c.push.new.self.items _ c.in_ok-push-in-Some.ensures.items)

pub returns-after-loop-argument : goal.returns-after-loop-argument
unfolding written
returns-after-loop-argument g c =
    let shown = g.S.ScalarValue.shown in
    seen-all (λ a. (view_argument shown a).name.item) c.deref-argument-items.result.now [] c.loop-argument.argument-index
    (view_names c.loop-argument.names.items) c.loop-argument-test.false c.loop-argument.invariant
    ∙ (seen-twice (view_argument shown) (λ a. a.name.item) c.deref-argument-items.result.now
    ∙ (ap (λ l. map (λ a. a.name.item) (map (view_argument shown) l)) c.deref-argument-items.ensures.value
    ∙ ap (λ o. map (λ a. a.name.item) (written (view_arguments shown o))) (sym c.in-Some.is)))

pub returns-in-None : goal.returns-in-None
unfolding written
returns-in-None g c =
    let shown = g.S.ScalarValue.shown in
    ap view_names c.new-names.ensures.items ∙ ap (λ o. map (λ a. a.name.item) (written (view_arguments shown o))) (sym c.in-None.is)
