use Rattle.std.proofs.Common.{arith}
use Rattle.juniper_written.specs.Measures.{number, of_fields, of_levels}
use Rattle.juniper_written.proofs.counts.Counts.of_field.Goals as goal

pub returns : goal.returns
unfolding number
returns c of_fields = omega (arith, c.saturating_add.ensures)
returns c of_levels = omega (arith, c.saturating_add-2.ensures)
