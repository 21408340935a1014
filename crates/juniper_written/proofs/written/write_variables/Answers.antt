use Rattle.std.proofs.Common.{map, refl, ap, sym, ◌∙◌, ◌++◌}
use Rattle.std.specs.List.{flat_map}
use Rattle.juniper_syntax.specs.DocumentView.{view_variable}
use Rattle.juniper_written.specs.WrittenView.{view_directives_at, view_variables}
use Rattle.juniper_written.proofs.Lists.{flat-next, flat-all, flat-seen}
use Rattle.juniper_written.proofs.written.write_variables.Goals as goal

pub loop-variable-init : goal.loop-variable-init
loop-variable-init g c = refl

pub loop-variable-preserved : goal.loop-variable-preserved
loop-variable-preserved g c =
    let shown = g.S.ScalarValue.shown in
    flat-next (λ v. (view_variable shown v).directives) c.deref-variable-items.result.now
    (view_directives_at shown c.args.into.now.items) c.loop-variable.variable-index c.variable-item.result
    (view_directives_at shown c.loop-variable.into.items) (view_directives_at shown c.write_directives.new.into.items) c.loop-variable-test.true
    c.variable-item.is c.loop-variable.invariant
    c.in_ok-write_directives-in-Some.ensures

pub returns-after-loop-variable : goal.returns-after-loop-variable
returns-after-loop-variable g c =
    let shown = g.S.ScalarValue.shown in
    let old = view_directives_at shown c.args.into.now.items in
    flat-all (λ v. (view_variable shown v).directives) c.deref-variable-items.result.now old c.loop-variable.variable-index
    (view_directives_at shown c.loop-variable.into.items) c.loop-variable-test.false c.loop-variable.invariant
    ∙ ap (λ l. old ++ l) (flat-seen (view_variable shown) (λ v. v.directives) c.deref-variable-items.result.now
    ∙ (ap (λ l. flat_map (λ v. v.directives) (map (view_variable shown) l)) c.deref-variable-items.ensures.value
    ∙ ap (λ o. flat_map (λ v. v.directives) (view_variables shown o)) (sym c.in-Some.is)))
