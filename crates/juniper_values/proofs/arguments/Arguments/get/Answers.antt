use Rattle.std.proofs.Common.{sym}
use Rattle.juniper_values.proofs.arguments.Arguments.get.Goals as goal

pub returns-in-Ok : goal.returns-in-Ok
returns-in-Ok g c = (_, sym c.in-Some.ensures, rw c.in-Ok.is at c.in_ok-found.ensures)
