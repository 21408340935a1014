use Rattle.juniper_words.proofs.PutFields.{node_put, nodes_put}
use Rattle.juniper_words.proofs.node_lists.nodes_at.Goals as goal

pub loop-place-preserved : goal.loop-place-preserved
loop-place-preserved g c at makes =
    node_put at c.args.places.now c.loop-place.place-index _ c.loop-place.nodes.items c.push.new.self.items _ c.loop-place-test.true
    c.in_ok-push.ensures.items (makes _ _ (record { met = c.node.ensures })) (c.loop-place.invariant at makes)

pub returns : goal.returns
returns g c at makes =
    nodes_put at c.args.places.now c.loop-place.place-index c.loop-place.nodes.items c.loop-place-test.false (c.loop-place.invariant at makes)
