use Rattle.std.proofs.Common.{get_or}
use Rattle.std.proofs.lemmas.List.{get_or_default}
use Rattle.std.specs.Borrow.{Bor}
use Rattle.juniper_types.proofs.Batches.{answers-more, answers-whole}
use Rattle.juniper_library.specs.declared.resolvers.Node.{Node}
use Rattle.juniper_library.specs.declared.resolvers.Node.TheVariants as at
use Rattle.juniper_library.proofs.resolvers.copies_of.Goals as goal

pub loop-node-preserved : goal.loop-node-preserved
loop-node-preserved g c =
    let l = c.loop-node in
    let xs = c.args.nodes.now in
    let none : Bor Node = record { ref_ptr = (0, 0); now = at.Query } in
    let x = get_or xs l.node-index none in
    answers-more g.S.ScalarValue.shown _ (λ n. n.now) xs l.node-index x l.made.items c.push.new.self.items _ c.loop-node-test.true
    (get_or_default xs l.node-index none x c.loop-node-test.true) c.in_ok-push.ensures.items c.copies_answer-answer.ensures l.invariant

pub returns : goal.returns
returns g c =
    answers-whole g.S.ScalarValue.shown _ (λ n. n.now) c.args.nodes.now c.loop-node.node-index c.loop-node.made.items c.loop-node-test.false
    c.loop-node.invariant
