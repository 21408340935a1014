use Rattle.graphql_spec.proofs.walking.runs_by_groups.Goals as goal
use Rattle.graphql_spec.proofs.Running.{none-ran, one-more-ran, run-answers}

pub returns-clause-none : goal.returns-clause-none
returns-clause-none g c = λ tell pick M T. none-ran M T tell pick

pub returns-clause-more : goal.returns-clause-more
returns-clause-more g c = λ tell pick M T. one-more-ran M T tell pick

pub returns-clause-answers : goal.returns-clause-answers
returns-clause-answers g c = λ tell M T. run-answers tell M T
