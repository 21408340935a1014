use Rattle.juniper_written.proofs.Bounding.{bounds_levels, counts_levels}
use Rattle.juniper_written.proofs.laws.bounds_levels.Goals as goal

pub returns-clause-bounds : goal.returns-clause-bounds
returns-clause-bounds c = bounds_levels

pub returns-clause-counts : goal.returns-clause-counts
returns-clause-counts c = counts_levels
