use Rattle.std.proofs.Common.{◌≡◌, map, drop, bytes_eq}
use Rattle.std.specs.List.{list_any}
use Rattle.juniper_meta.specs.MetaView.{view_location}
use Rattle.juniper_intro.proofs.answers.stands_on.Given as goal

-- what is left decides
abbrev pub invariant-loop-location : goal.invariant-loop-location
invariant-loop-location g l =
    list_any (bytes_eq l.place) (map view_location l.location-items) ≡ list_any (bytes_eq l.place) (map view_location (drop l.location-index l.location-items))
