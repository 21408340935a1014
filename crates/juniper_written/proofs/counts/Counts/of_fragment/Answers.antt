use Rattle.std.proofs.Common.{arith, rules}
use Rattle.juniper_written.specs.Measures.{number, of_fields, of_levels, put_in}
use Rattle.juniper_written.proofs.counts.Counts.of_fragment.Goals as goal

pub returns : goal.returns
unfolding number put_in
returns c of_fields = search (rules, arith)
returns c of_levels = omega (arith, c.saturating_add-levels.ensures)
