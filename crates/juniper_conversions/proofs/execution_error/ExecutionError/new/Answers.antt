use Rattle.juniper_syntax.specs.Positions.{view_position}
use Rattle.juniper_conversions.specs.ErrorView.{view_error}
use Rattle.juniper_conversions.proofs.execution_error.ExecutionError.new.Goals as goal

pub returns : goal.returns
returns g c = λ i. record { path = c.in_ok-path.ensures i; start = view_position c.args.location; error = view_error g.S.ScalarValue.shown c.args.error }
