use Rattle.std.proofs.Common.{◌≡◌, ◌++◌, map}
use Rattle.graphql_spec.specs.Introspected.{lists_value}
use Rattle.graphql_spec.specs.Resolvers.{node}
use Rattle.juniper_meta.specs.MetaView.{view_enum_value}
use Rattle.juniper_values.specs.ResolvedView.{view_resolved}
use Rattle.juniper_intro.specs.HandleView.{of_handle}
use Rattle.juniper_intro.specs.Handles.{value_handle}
use Rattle.juniper_intro.proofs.Collected.{left}
use Rattle.juniper_intro.proofs.nodes.values.Given as goal

-- the nodes so far, and then those of what is left
abbrev pub invariant-loop-number : goal.invariant-loop-number
invariant-loop-number g l =
    map (view_resolved g.S.ScalarValue.shown) l.nodes.items ++ left view_enum_value (lists_value l.deprecated_too)
    (λ k. node (of_handle (value_handle l.of_type k))) l.values l.number
    ≡ left view_enum_value (lists_value l.deprecated_too) (λ k. node (of_handle (value_handle l.of_type k))) l.values 0
