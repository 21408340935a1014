use Rattle.juniper_walk.proofs.Gathering.{all-added, one-added, start-adding}
use Rattle.juniper_walk.proofs.making.add_grouped.Goals as goal

pub loop-occurrence-init : goal.loop-occurrence-init
loop-occurrence-init g c =
    start-adding g.S.ScalarValue.shown c.args.collector.now (g.R.Resolver.asks c.args.collector.now.possible)
    (g.R.Conditions.possible c.args.collector.now.possible) c.args.concrete.now c.args.fields.now c.args.plan.now _
    c.requires c.in_ok-by_key.ensures

pub loop-occurrence-preserved : goal.loop-occurrence-preserved
loop-occurrence-preserved g c =
    one-added g.S.ScalarValue.shown c.args.collector.now (g.R.Resolver.asks c.args.collector.now.possible)
    (g.R.Conditions.possible c.args.collector.now.possible) c.args.concrete.now c.args.fields.now
    c.loop-occurrence.occurrence-index c.args.plan.now c.loop-occurrence.plan c.add_members.new.plan _ _ c.loop-occurrence.invariant c.occurrence-item.result
    c.loop-occurrence-test.true c.occurrence-item.is c.response_key-key.result.now c.response_key-key.ensures c.take_fields-members.result.items
    c.take_fields-members.ensures.fields c.take_fields-members.ensures.taken c.in_ok-add_members.ensures

pub returns : goal.returns
returns g c =
    all-added g.S.ScalarValue.shown c.args.collector.now (g.R.Resolver.asks c.args.collector.now.possible)
    (g.R.Conditions.possible c.args.collector.now.possible) c.args.concrete.now c.args.fields.now
    c.loop-occurrence.occurrence-index c.args.plan.now c.loop-occurrence.plan _ c.loop-occurrence.invariant c.loop-occurrence-test.false
