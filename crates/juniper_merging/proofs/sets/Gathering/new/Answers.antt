use Rattle.juniper_merging.proofs.Gathered.{nothing-gathered}
use Rattle.juniper_merging.proofs.sets.Gathering.new.Goals as goal

pub returns : goal.returns
returns c = λ t. nothing-gathered t _ c.new.ensures.items c.new-2.ensures.items
