use Rattle.juniper_explain.proofs.Valid.{none-explained, none-listed}
use Rattle.juniper_explain.proofs.laws.valid_documents_are_not_explained.Goals as goal

pub returns : goal.returns
returns c s disabled d = (none-explained s disabled d, none-listed s disabled d)
