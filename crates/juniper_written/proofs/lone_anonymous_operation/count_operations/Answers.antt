use Rattle.juniper_written.proofs.Counted.{counts-operation, counts-fragment, counts-all}
use Rattle.juniper_written.proofs.lone_anonymous_operation.count_operations.Goals as goal
use Rattle.juniper_written.proofs.lone_anonymous_operation.count_operations.Goals.{in-Operation, in-Fragment}

pub loop-definition-preserved : goal.loop-definition-preserved
loop-definition-preserved g c =
    let shown = g.S.ScalarValue.shown in
    let l = c.loop-definition in
    elim c.match-definition.branch [
      | in-Operation w ↦ counts-operation shown c.args.definitions.now l.definition-index c.definition-item.result l.count c.match-definition.count
          c.loop-definition-test.true c.definition-item.is _ w.in-Operation.is w.count-is l.invariant
      | in-Fragment w ↦ counts-fragment shown c.args.definitions.now l.definition-index c.definition-item.result l.count c.match-definition.count
          c.loop-definition-test.true c.definition-item.is _ w.in-Fragment.is w.count-is l.invariant
    ]

pub returns : goal.returns
returns g c = counts-all g.S.ScalarValue.shown c.args.definitions.now c.loop-definition.definition-index c.loop-definition.count c.loop-definition-test.false
    c.loop-definition.invariant
