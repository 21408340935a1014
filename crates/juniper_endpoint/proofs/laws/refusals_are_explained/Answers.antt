use Rattle.juniper_endpoint.proofs.Explaining.{nothing-explained}
use Rattle.juniper_endpoint.proofs.laws.refusals_are_explained.Goals as goal

pub returns : goal.returns
returns c s disabled most q errors d passes none = nothing-explained s disabled most q errors d passes none
