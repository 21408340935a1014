use Rattle.std.proofs.Common.{◌≡◌, ◌++◌, map}
use Rattle.graphql_spec.specs.Introspected.{lists_field}
use Rattle.graphql_spec.specs.Resolvers.{node}
use Rattle.juniper_meta.specs.MetaView.{view_field}
use Rattle.juniper_values.specs.ResolvedView.{view_resolved}
use Rattle.juniper_intro.specs.HandleView.{of_handle}
use Rattle.juniper_intro.specs.Handles.{field_handle}
use Rattle.juniper_intro.proofs.Collected.{left}
use Rattle.juniper_intro.proofs.nodes.fields.Given as goal

-- the nodes so far, and then those of what is left
abbrev pub invariant-loop-number : goal.invariant-loop-number
invariant-loop-number g l =
    let shown = g.S.ScalarValue.shown in
    map (view_resolved shown) l.nodes.items ++ left (view_field shown) (lists_field l.deprecated_too)
    (λ k. node (of_handle (field_handle l.of_type k))) l.fields l.number
    ≡ left (view_field shown) (lists_field l.deprecated_too) (λ k. node (of_handle (field_handle l.of_type k))) l.fields 0
