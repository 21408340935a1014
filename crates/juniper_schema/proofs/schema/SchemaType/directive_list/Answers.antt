use Rattle.std.proofs.Common.{refl}
use Rattle.juniper_meta.specs.MetaView.{view_directive}
use Rattle.juniper_schema.proofs.Pushing.{pushed_next}
use Rattle.juniper_schema.proofs.schema.SchemaType.directive_list.Goals as goal

pub loop-directive-preserved : goal.loop-directive-preserved
loop-directive-preserved g c =
    let shown = g.S.ScalarValue.shown in
    pushed_next (view_directive shown) (λ d. view_directive shown d.now) c.deref-directive-items.result.now c.loop-directive.directive-index
    c.directive-item.result c.loop-directive.listed.items c.push.new.self.items
    _ c.loop-directive-test.true c.directive-item.is c.in_ok-push.ensures.items refl c.loop-directive.invariant
