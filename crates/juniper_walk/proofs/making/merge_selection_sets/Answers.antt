use Rattle.std.proofs.Common.{refl, ap, ◌∙◌}
use Rattle.std.proofs.lemmas.List.{take_all}
use Rattle.graphql_spec.specs.Selections.{all_below}
use Rattle.juniper_lookahead.specs.Collected.{view_all}
use Rattle.juniper_walk.proofs.Enclosed.{none-selected, one-selected}
use Rattle.juniper_walk.proofs.making.merge_selection_sets.Goals as goal

pub loop-occurrence-init : goal.loop-occurrence-init
loop-occurrence-init g c = none-selected g.S.ScalarValue.shown c.args.collector.now _ _ c.in_ok-made.ensures.items refl

pub loop-occurrence-preserved : goal.loop-occurrence-preserved
loop-occurrence-preserved g c =
    one-selected g.S.ScalarValue.shown c.args.collector.now c.loop-occurrence.made.items c.push.new.self.items _ c.args.fields.now
    c.loop-occurrence.occurrence-index c.occurrence-item.result c.loop-occurrence-test.true c.occurrence-item.is c.loop-occurrence.invariant
    c.in_ok-push.ensures.items c.selections_of-selections.ensures

pub returns : goal.returns
returns g c =
    c.loop-occurrence.invariant ∙ ap (λ l. all_below (view_all g.S.ScalarValue.shown c.args.collector.now l))
    (take_all c.loop-occurrence.occurrence-index c.args.fields.now c.loop-occurrence-test.false)
