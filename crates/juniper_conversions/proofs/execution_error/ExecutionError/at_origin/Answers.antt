use Rattle.std.proofs.Common.{rules}
use Rattle.juniper_conversions.proofs.execution_error.ExecutionError.at_origin.Goals as goal

pub returns : goal.returns
returns g c = search rules
