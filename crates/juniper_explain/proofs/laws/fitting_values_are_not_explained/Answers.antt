use Rattle.juniper_explain.proofs.TellingValues.{no-values-explained, no-values-listed}
use Rattle.juniper_explain.proofs.laws.fitting_values_are_not_explained.Goals as goal

pub returns : goal.returns
returns c s vs given = (no-values-explained s given vs, no-values-listed s given vs)
