use Rattle.std.proofs.Common.{◌≡◌, ◌++◌, map, take}
use Rattle.graphql_spec.specs.Errors.{index}
use Rattle.juniper_conversions.specs.PathView.{path_place}
use Rattle.juniper_assemble.proofs.spot.path_within.Given as goal

-- the positions so far are put behind the path
abbrev pub invariant-loop-position : goal.invariant-loop-position
invariant-loop-position l = path_place l.made.value ≡ path_place l.path.value ++ map index (take l.position-index l.positions)
