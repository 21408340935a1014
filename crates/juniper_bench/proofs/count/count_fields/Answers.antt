use Rattle.juniper_bench.proofs.Counting.{totals-next, totals-all}
use Rattle.juniper_bench.proofs.count.count_fields.Goals as goal

pub loop-definition-preserved : goal.loop-definition-preserved
loop-definition-preserved g c =
    totals-next g.S.ScalarValue.shown c.as_slice-definitions.result.now c.loop-definition.definition-index c.definition-item.result c.selections_of.result.now _
    _
    c.loop-definition-test.true c.definition-item.is c.loop-definition.invariant c.count_selections-count.type_inv c.selections_of.ensures
    c.count_selections-count.ensures

pub returns : goal.returns
returns g c =
    totals-all g.S.ScalarValue.shown c.as_slice-definitions.result.now c.args.document.now.items _ _ c.as_slice-definitions.ensures.value
    c.loop-definition-test.false c.loop-definition.invariant
