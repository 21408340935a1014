use Rattle.juniper_explain.proofs.Telling.{errors-told}
use Rattle.juniper_explain.proofs.laws.errors_are_explained.Goals as goal

pub returns : goal.returns
returns c s disabled d = errors-told s disabled d
