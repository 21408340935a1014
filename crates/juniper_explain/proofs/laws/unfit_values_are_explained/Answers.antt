use Rattle.juniper_explain.proofs.TellingValues.{values-told}
use Rattle.juniper_explain.proofs.laws.unfit_values_are_explained.Goals as goal

pub returns : goal.returns
returns c s vs given = values-told s given vs
