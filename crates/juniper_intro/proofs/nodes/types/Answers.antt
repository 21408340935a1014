use Rattle.std.proofs.Common.{map, ap, ◌∙◌}
use Rattle.std.proofs.lemmas.List.{take_all}
use Rattle.graphql_spec.specs.Resolvers.{answered, node}
use Rattle.juniper_intro.specs.HandleView.{of_handle}
use Rattle.juniper_intro.specs.Handles.{by_name, type_handle}
use Rattle.juniper_intro.specs.Naming.{number_of}
use Rattle.juniper_intro.proofs.Collected.{called-listed}
use Rattle.juniper_intro.proofs.nodes.types.Goals as goal

pub returns : goal.returns
returns g c =
    ap answered (called-listed g.S.ScalarValue.shown (number_of c.args.names.now) (map g.T.AsStr.text c.args.listed.now) c.loop-name.nodes
    (c.loop-name.invariant ∙ ap (λ l. map (λ n. node (of_handle (type_handle (by_name (number_of c.args.names.now n)) 0))) (map g.T.AsStr.text l))
    (take_all c.loop-name.name-index c.args.listed.now c.loop-name-test.false)))
