use Rattle.juniper_merging.proofs.Whole.{whole}
use Rattle.juniper_merging.proofs.laws.sets_tell.Goals as goal

pub returns : goal.returns
returns c = whole
