use Rattle.std.proofs.Common.{◌≡◌, map, take}
use Rattle.graphql_spec.specs.Resolvers.{node}
use Rattle.juniper_values.specs.ResolvedView.{view_resolved}
use Rattle.juniper_words.proofs.node_lists.nodes.Given as goal

-- the nodes so far
abbrev pub invariant-loop-node : goal.invariant-loop-node
invariant-loop-node g l =
    map (view_resolved g.S.ScalarValue.shown) l.items.items ≡ map (λ n. node n) (take l.node-index l.nodes)
