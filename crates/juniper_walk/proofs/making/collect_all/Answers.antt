use Rattle.std.proofs.Common.{refl, ap, ◌∙◌}
use Rattle.std.proofs.lemmas.List.{take_all}
use Rattle.graphql_spec.specs.Selections.{occurrences}
use Rattle.juniper_walk.specs.Plans.{all_expanded}
use Rattle.juniper_walk.proofs.Enclosed.{more-collected, none-collected, one-collected}
use Rattle.juniper_walk.proofs.making.collect_all.Goals as goal

pub loop-around-init : goal.loop-around-init
loop-around-init g c = none-collected g.S.ScalarValue.shown c.args.collector.now _ c.args.concrete.now _ _ c.new-fields.ensures.items refl

pub loop-around-preserved : goal.loop-around-preserved
loop-around-preserved g c =
    more-collected g.S.ScalarValue.shown c.args.collector.now (g.R.Conditions.possible c.args.collector.now.possible) c.args.concrete.now
    _ c.in_ok-more.more.items _ c.args.enclosing.now c.loop-around.around-index c.around-item.result c.loop-around-test.true c.around-item.is
    c.loop-around.invariant c.in_ok-more.ensures c.in_ok-append.ensures.items

pub returns : goal.returns
returns g c =
    c.loop-around.invariant ∙ ap (λ l. occurrences (g.R.Conditions.possible c.args.collector.now.possible) c.args.concrete.now
    (all_expanded g.S.ScalarValue.shown c.args.collector.now l)) (take_all c.loop-around.around-index c.args.enclosing.now c.loop-around-test.false)

pub returns-in-len1 : goal.returns-in-len1
returns-in-len1 g c =
    one-collected g.S.ScalarValue.shown c.args.collector.now (g.R.Conditions.possible c.args.collector.now.possible) c.args.concrete.now
    c.in_ok-found.found.items c.args.enclosing.now c.only-item.result c.in-len1.len_at_least c.in-len1.len_below c.only-item.is c.in_ok-found.ensures
