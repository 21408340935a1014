use Rattle.std.proofs.Common.{ap, map, ◌∙◌}
use Rattle.juniper_conversions.specs.SegmentView.{view_segment}
use Rattle.juniper_syntax.specs.Positions.{view_position}
use Rattle.juniper_conversions.proofs.execution_error.ExecutionError.try_clone.Goals as goal

pub returns : goal.returns
returns g c =
    let path = c.in_ok-clone_path.ensures ∙ ap (map view_segment) c.as_slice.ensures.value in
    λ i. record { path = path i; start = view_position c.args.self.now.location; error = c.in_ok-try_clone.ensures i }
