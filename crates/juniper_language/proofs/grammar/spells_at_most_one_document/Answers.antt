use Rattle.juniper_language.proofs.DocumentLaws.{spelled_once}
use Rattle.juniper_language.proofs.grammar.spells_at_most_one_document.Goals as goal

pub returns : goal.returns
returns c = spelled_once
