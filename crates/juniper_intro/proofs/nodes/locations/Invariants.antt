use Rattle.std.proofs.Common.{◌≡◌, map, take}
use Rattle.graphql_spec.specs.Introspection.{says}
use Rattle.juniper_meta.specs.MetaView.{view_location}
use Rattle.juniper_values.specs.ResolvedView.{view_resolved}
use Rattle.juniper_intro.proofs.nodes.locations.Given as goal

-- the names so far
abbrev pub invariant-loop-location : goal.invariant-loop-location
invariant-loop-location g l =
    map (view_resolved g.S.ScalarValue.shown) l.names.items ≡ map (λ n. says n) (map view_location (take l.location-index l.locations))
