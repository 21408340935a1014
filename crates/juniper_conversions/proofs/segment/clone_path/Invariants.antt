use Rattle.std.proofs.Common.{◌≡◌, map, take}
use Rattle.juniper_conversions.specs.SegmentView.{view_segment}
use Rattle.juniper_conversions.proofs.segment.clone_path.Given as goal

-- the steps so far
abbrev pub invariant-loop-segment : goal.invariant-loop-segment
invariant-loop-segment l = map view_segment l.made.items ≡ map view_segment (take l.segment-index l.path)
