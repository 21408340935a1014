use Rattle.std.proofs.Common.{arith, rules}
use Rattle.juniper_written.specs.Measures.{join, number, of_fields, of_levels}
use Rattle.juniper_written.proofs.counts.Counts.join.Goals as goal

pub returns : goal.returns
unfolding number join
returns c of_fields = omega (arith, c.saturating_add.ensures)
returns c of_levels = search (rules, arith)
