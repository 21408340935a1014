use Rattle.std.proofs.Common.{subst}
use Rattle.juniper_walk.specs.FieldWords.{head_of}
use Rattle.juniper_walk.proofs.Gathering.{first-added, none-added}
use Rattle.juniper_walk.proofs.making.add_members.Goals as goal

pub returns-then-is_empty : goal.returns-then-is_empty
returns-then-is_empty g c =
    none-added g.S.ScalarValue.shown (g.R.Resolver.asks c.args.collector.now.possible c.args.concrete.now) c.args.key.now c.args.fields c.is_empty.result
    c.is_empty.ensures c.if-is_empty.true c.args.plan.now

pub returns : goal.returns
returns g c =
    first-added g.S.ScalarValue.shown (g.R.Resolver.asks c.args.collector.now.possible c.args.concrete.now) c.args.key.now c.args.fields c.is_empty.result
    c.is_empty.ensures c.if-is_empty.false c.index.result.now c.in_ok-question.question
    (subst (λ o. g.R.Resolver.asks c.args.collector.now.possible c.args.concrete.now (head_of g.S.ScalarValue.shown o.field.now) c.in_ok-question.question)
    c.index.ensures c.in_ok-question.ensures) c.args.plan.now _ c.in_ok-add_group.ensures
