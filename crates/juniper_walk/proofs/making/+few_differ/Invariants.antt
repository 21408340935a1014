use Rattle.std.proofs.Common.{length}
use Rattle.juniper_walk.proofs.making.+few_differ.Given as goal

abbrev pub decreases-few_differ : goal.decreases-few_differ
decreases-few_differ g c = length c.fields.now
