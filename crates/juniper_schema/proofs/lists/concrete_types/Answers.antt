use Rattle.std.proofs.Common.{map, rules}
use Rattle.juniper_schema.specs.declared.type_type.TypeType.{the_lemmas}
use Rattle.juniper_schema.specs.ListedTypes.{view_named}
use Rattle.juniper_schema.specs.MadeTypes.{concrete, view_made}
use Rattle.juniper_schema.specs.SchemaView.{meta_of}
use Rattle.juniper_schema.proofs.Pushing.{pushed_all, pushed_next_by}
use Rattle.juniper_schema.proofs.lists.concrete_types.Goals as goal

pub loop-one-preserved : goal.loop-one-preserved
loop-one-preserved g c =
    let shown = g.S.ScalarValue.shown in
    pushed_next_by (λ e. concrete (meta_of e)) (view_named shown) (view_made shown) c.deref-one-items.result.now c.loop-one.one-index
    c.one-item.result c.loop-one.types.items c.push.new.self.items
    _ c.loop-one-test.true c.one-item.is c.in_ok-push.ensures.items (search (rules, the_lemmas)) c.loop-one.invariant

pub returns : goal.returns
returns g c =
    let shown = g.S.ScalarValue.shown in
    pushed_all (λ e. concrete (meta_of e)) (view_named shown) c.deref-one-items.result.now c.args.named.items c.loop-one.one-index
    (map (view_made shown) c.loop-one.types.items) c.loop-one-test.false c.deref-one-items.ensures.value c.loop-one.invariant
