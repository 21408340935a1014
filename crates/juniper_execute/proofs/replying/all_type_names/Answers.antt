use Rattle.juniper_types.proofs.Batches.{answers-more, answers-whole}
use Rattle.juniper_execute.proofs.replying.all_type_names.Goals as goal

pub loop-node-preserved : goal.loop-node-preserved
loop-node-preserved g c =
    let l = c.loop-node in
    answers-more g.S.ScalarValue.shown _ (λ n. n.now) c.args.nodes.now l._node-index c._node-item.result l.made.items c.push.new.self.items _
    c.loop-node-test.true c._node-item.is c.in_ok-push.ensures.items c.type_name-answer.ensures l.invariant

pub returns : goal.returns
returns g c =
    answers-whole g.S.ScalarValue.shown _ (λ n. n.now) c.args.nodes.now c.loop-node._node-index c.loop-node.made.items c.loop-node-test.false
    c.loop-node.invariant
