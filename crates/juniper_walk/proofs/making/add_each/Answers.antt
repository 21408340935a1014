use Rattle.juniper_walk.proofs.Gathering.{all-added, one-alone, start-alone}
use Rattle.juniper_walk.proofs.making.add_each.Goals as goal

pub loop-occurrence-init : goal.loop-occurrence-init
loop-occurrence-init g c =
    start-alone g.S.ScalarValue.shown c.args.collector.now (g.R.Resolver.asks c.args.collector.now.possible)
    (g.R.Conditions.possible c.args.collector.now.possible) c.args.concrete.now c.args.fields.now c.args.plan.now c.requires.standing

pub loop-occurrence-preserved : goal.loop-occurrence-preserved
loop-occurrence-preserved g c =
    one-alone g.S.ScalarValue.shown c.args.collector.now (g.R.Resolver.asks c.args.collector.now.possible)
    (g.R.Conditions.possible c.args.collector.now.possible) c.args.concrete.now c.args.fields.now
    c.loop-occurrence.occurrence-index c.args.plan.now c.loop-occurrence.plan c.add_field.new.self c.loop-occurrence.invariant c.occurrence-item.result
    c.loop-occurrence-test.true c.occurrence-item.is c.response_key.result.now c.response_key.ensures c.requires.differ c.in_ok-question.question
    c.in_ok-question.ensures c.in_ok-add_field.ensures

pub returns : goal.returns
returns g c =
    all-added g.S.ScalarValue.shown c.args.collector.now (g.R.Resolver.asks c.args.collector.now.possible)
    (g.R.Conditions.possible c.args.collector.now.possible) c.args.concrete.now c.args.fields.now
    c.loop-occurrence.occurrence-index c.args.plan.now c.loop-occurrence.plan _ c.loop-occurrence.invariant c.loop-occurrence-test.false
