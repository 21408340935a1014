use Rattle.std.proofs.Common.{◌≡◌, ◌++◌, length, map}
use denote.Text.{Utf8}
use denote.Shadow.{shadow}
use Rattle.juniper_http.specs.Accept.{ranges_in, view_range}
use Rattle.juniper_http.proofs.accept.add_ranges.Given as goal

-- what is made, with what is still to come, is the whole
abbrev pub invariant-parts : goal.invariant-parts
invariant-parts l = shadow (Utf8 l.rest) × (map view_range l.made.items ++ ranges_in l.rest ≡ map view_range l.fn.ranges.items ++ ranges_in l.fn.text)

abbrev pub decreases-parts : goal.decreases-parts
decreases-parts l = length l.rest
