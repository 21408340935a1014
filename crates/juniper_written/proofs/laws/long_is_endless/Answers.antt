use Rattle.juniper_written.proofs.Chains.{long_is_endless}
use Rattle.juniper_written.proofs.laws.long_is_endless.Goals as goal

pub returns : goal.returns
returns c = long_is_endless
