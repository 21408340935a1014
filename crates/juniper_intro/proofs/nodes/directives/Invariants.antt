use Rattle.std.proofs.Common.{◌≡◌, map}
use Rattle.std.specs.List.{range_with_len}
use Rattle.graphql_spec.specs.Resolvers.{node}
use Rattle.juniper_values.specs.ResolvedView.{view_resolved}
use Rattle.juniper_intro.specs.HandleView.{of_handle}
use Rattle.juniper_intro.specs.Handles.{directive_handle}
use Rattle.juniper_intro.proofs.nodes.directives.Given as goal

-- the nodes so far
abbrev pub invariant-loop-number : goal.invariant-loop-number
invariant-loop-number g l =
    map (view_resolved g.S.ScalarValue.shown) l.nodes.items ≡ map (λ k. node (of_handle (directive_handle k))) (range_with_len 0 l.number)
