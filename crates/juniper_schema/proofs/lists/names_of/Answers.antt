use Rattle.std.proofs.Common.{map, refl}
use Rattle.juniper_schema.specs.ListedTypes.{view_named}
use Rattle.juniper_schema.proofs.Pushing.{pushed_all, pushed_next_by}
use Rattle.juniper_schema.proofs.lists.names_of.Goals as goal

pub loop-one-preserved : goal.loop-one-preserved
loop-one-preserved g c =
    let shown = g.S.ScalarValue.shown in
    pushed_next_by (λ e. e.key) (view_named shown) (λ n. n.now) c.deref-one-items.result.now c.loop-one.one-index
    c.one-item.result c.loop-one.names.items c.push.new.self.items
    _ c.loop-one-test.true c.one-item.is c.in_ok-push.ensures.items refl c.loop-one.invariant

pub returns : goal.returns
returns g c =
    let shown = g.S.ScalarValue.shown in
    pushed_all (λ e. e.key) (view_named shown) c.deref-one-items.result.now c.args.named.items c.loop-one.one-index
    (map (λ n. n.now) c.loop-one.names.items) c.loop-one-test.false c.deref-one-items.ensures.value c.loop-one.invariant
