use Rattle.std.proofs.Common.{ap, arith}
use Rattle.juniper_syntax.specs.DocumentView.{view_definition, view_fragment, view_operation}
use Rattle.juniper_lookahead.proofs.Counting.{all-counted, none-counted, one-counted}
use Rattle.juniper_lookahead.proofs.fragments.count_fragments.Goals as goal
use Rattle.juniper_lookahead.proofs.fragments.count_fragments.Goals.{in-Fragment, in-Operation}

pub loop-definition-preserved : goal.loop-definition-preserved
loop-definition-preserved g c =
    let view = view_definition g.S.ScalarValue.shown in
    elim c.match-definition.branch [
      | in-Fragment w ↦
          let e = one-counted view c.args.document.now c.loop-definition.definition-index c.definition-item.result
          (view_fragment g.S.ScalarValue.shown w.in-Fragment.field-0) c.loop-definition-test.true c.definition-item.is (ap view w.in-Fragment.is) in
          omega (arith, e)
      | in-Operation w ↦
          let e = none-counted view c.args.document.now c.loop-definition.definition-index c.definition-item.result
          (view_operation g.S.ScalarValue.shown w.in-Operation.field-0) c.loop-definition-test.true c.definition-item.is (ap view w.in-Operation.is) in
          omega (arith, e)
    ]

pub returns : goal.returns
returns g c = let e = all-counted (view_definition g.S.ScalarValue.shown) c.args.document.now c.loop-definition.definition-index c.loop-definition-test.false in
    omega (arith, e)
