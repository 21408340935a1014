use Rattle.juniper.proofs.Ending.{requests-end, texts-are-read}
use Rattle.juniper.proofs.laws.requests_end.Goals as goal

pub returns-clause-texts : goal.returns-clause-texts
returns-clause-texts g c = texts-are-read

pub returns-clause-outcomes : goal.returns-clause-outcomes
returns-clause-outcomes g c = λ S. requests-end S
