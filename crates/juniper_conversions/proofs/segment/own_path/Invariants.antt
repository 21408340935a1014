use Rattle.std.proofs.Common.{◌≡◌, map, take}
use Rattle.juniper_conversions.specs.SegmentView.{view_part, view_segment}
use Rattle.juniper_conversions.proofs.segment.own_path.Given as goal

-- the steps so far
abbrev pub invariant-loop-part : goal.invariant-loop-part
invariant-loop-part l = map view_segment l.made.items ≡ map view_part (take l.part-index l.parts)
