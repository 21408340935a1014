use Rattle.std.proofs.Common.{map, take}
use Rattle.graphql_spec.specs.Resolvers.{answered, leaf}
use Rattle.graphql_spec.specs.Shown.{text}
use Rattle.juniper_values.specs.ResolvedView.{AllAnswer}
use Rattle.juniper_execute.proofs.replying.all_type_names.Given as goal

-- the nodes before this one are answered
abbrev pub invariant-loop-node : goal.invariant-loop-node
invariant-loop-node g l =
    AllAnswer g.S.ScalarValue.shown (λ m. answered (leaf (text l.concrete))) (map (λ n. n.now) (take l._node-index l.nodes)) l.made.items
