use Rattle.juniper_merging.proofs.Telling.{tells}
use Rattle.juniper_merging.proofs.laws.numbers_tell.Goals as goal

pub returns : goal.returns
returns c = tells
