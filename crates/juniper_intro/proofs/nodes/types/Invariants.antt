use Rattle.std.proofs.Common.{◌≡◌, map, take}
use Rattle.graphql_spec.specs.Resolvers.{node}
use Rattle.juniper_values.specs.ResolvedView.{view_resolved}
use Rattle.juniper_intro.specs.HandleView.{of_handle}
use Rattle.juniper_intro.specs.Handles.{by_name, type_handle}
use Rattle.juniper_intro.specs.Naming.{number_of}
use Rattle.juniper_intro.proofs.nodes.types.Given as goal

-- the nodes so far
abbrev pub invariant-loop-name : goal.invariant-loop-name
invariant-loop-name g l =
    map (view_resolved g.S.ScalarValue.shown) l.nodes.items ≡ map (λ n. node (of_handle (type_handle (by_name (number_of l.names n)) 0)))
    (map g.T.AsStr.text (take l.name-index l.listed))
