use Rattle.std.proofs.Common.{◌≡◌, map}
use Rattle.std.specs.List.{range_with_len}
use Rattle.graphql_spec.specs.Resolvers.{node}
use Rattle.juniper_values.specs.ResolvedView.{view_resolved}
use Rattle.juniper_intro.specs.Collected.{place_in}
use Rattle.juniper_intro.specs.HandleView.{of_handle}
use Rattle.juniper_intro.specs.Handles.{input_handle}
use Rattle.juniper_intro.proofs.nodes.inputs.Given as goal

-- the nodes so far
abbrev pub invariant-loop-number : goal.invariant-loop-number
invariant-loop-number g l =
    map (view_resolved g.S.ScalarValue.shown) l.nodes.items ≡ map (λ k. node (of_handle (input_handle (place_in l.owner k)))) (range_with_len 0 l.number)
