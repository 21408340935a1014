use Rattle.std.proofs.Common.{◌≤◌, map, length, ap, sym, ◌∙◌, arith}
use Rattle.std.proofs.lemmas.List.{take_all}
use Rattle.graphql_spec.specs.Resolvers.{answered, items, node}
use Rattle.juniper_values.proofs.Resolutions.{view-List}
use Rattle.juniper_values.specs.ResolvedView.{trees_of}
use Rattle.juniper_words.proofs.node_lists.nodes.Goals as goal

pub returns : goal.returns
returns g c =
    let ended : length c.args.nodes.now ≤ c.loop-node.node-index = omega arith in
    sym (ap answered (view-List g.S.ScalarValue.shown c.loop-node.items ∙ ap (λ ts. items (trees_of ts))
    (c.loop-node.invariant ∙ ap (map (λ n. node n)) (take_all c.loop-node.node-index c.args.nodes.now ended))))
