use Rattle.juniper_syntax.specs.DocumentView.{view_directive}
use Rattle.juniper_syntax.proofs.Lists.{seen-push}
use Rattle.juniper_written.specs.WrittenView.{view_directives_at}
use Rattle.juniper_written.proofs.Lists.{seen-next}
use Rattle.juniper_written.proofs.written.write_directives.Goals as goal

pub loop-directive-preserved : goal.loop-directive-preserved
loop-directive-preserved g c =
    let shown = g.S.ScalarValue.shown in
    seen-next (view_directive shown) c.deref-directive-items.result.now
    (view_directives_at shown c.args.into.now.items) c.loop-directive.directive-index c.directive-item.result
    (view_directives_at shown c.loop-directive.into.items) _ c.loop-directive-test.true c.directive-item.is c.loop-directive.invariant
    (seen-push (λ d. view_directive shown d.now) c.loop-directive.into.items c.push.new.self.items _ c.in_ok-push-in-Some.ensures.items)
