use Rattle.graphql_spec.proofs.walking.tells_firsts.Goals as goal
use Rattle.graphql_spec.proofs.FirstOccurrences.{firsts-tell, firsts-answer, firsts-answer-runs}

pub returns-clause-tell : goal.returns-clause-tell
returns-clause-tell g c = firsts-tell

pub returns-clause-answers : goal.returns-clause-answers
returns-clause-answers g c = λ W. firsts-answer W

pub returns-clause-runs : goal.returns-clause-runs
returns-clause-runs g c = λ M T. firsts-answer-runs M T
