use Rattle.std.proofs.Common.{ap, map}
use Rattle.juniper_conversions.specs.SegmentView.{view_segment}
use Rattle.juniper_conversions.proofs.execution_error.ExecutionError.path.Goals as goal

pub returns : goal.returns
returns g c = ap (map view_segment) c.as_slice.ensures.value
