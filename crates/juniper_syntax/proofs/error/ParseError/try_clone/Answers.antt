use Rattle.std.proofs.Common.{sym, ap}
use Rattle.juniper_syntax.specs.Refusals.{view_refusal}
use Rattle.juniper_syntax.proofs.error.ParseError.try_clone.Goals as goal

pub returns-in-TooDeep : goal.returns-in-TooDeep
returns-in-TooDeep c = ap view_refusal (sym c.in-TooDeep.is)
