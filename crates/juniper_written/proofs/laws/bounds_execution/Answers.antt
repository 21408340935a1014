use Rattle.juniper_written.proofs.Bounding.{bounds_depth, bounds_execution, counts_fields, met_is_collected, met_is_merged}
use Rattle.juniper_written.proofs.laws.bounds_execution.Goals as goal

pub returns-clause-bounds : goal.returns-clause-bounds
returns-clause-bounds c = bounds_execution

pub returns-clause-depth : goal.returns-clause-depth
returns-clause-depth c = bounds_depth

pub returns-clause-counts : goal.returns-clause-counts
returns-clause-counts c = counts_fields

pub returns-clause-collected : goal.returns-clause-collected
returns-clause-collected c = met_is_collected

pub returns-clause-merged : goal.returns-clause-merged
returns-clause-merged c = met_is_merged
