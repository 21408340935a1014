use Rattle.graphql_spec.proofs.walking.completes_by_occurrences.Goals as goal
use Rattle.graphql_spec.proofs.Picked.{all-completed, once-completed}
use Rattle.graphql_spec.proofs.Completing.{first-completed, one-more-completed, lost-completed, keys-merge, run-groups-merge}

pub returns-clause-first : goal.returns-clause-first
returns-clause-first g c = λ tell W. first-completed tell W

pub returns-clause-more : goal.returns-clause-more
returns-clause-more g c = λ tell W. one-more-completed tell W

pub returns-clause-lost : goal.returns-clause-lost
returns-clause-lost g c = λ tell W. lost-completed tell W

pub returns-clause-merge : goal.returns-clause-merge
returns-clause-merge g c = λ W. keys-merge W

pub returns-clause-all : goal.returns-clause-all
returns-clause-all g c = λ W. all-completed W

pub returns-clause-once : goal.returns-clause-once
returns-clause-once g c = λ tell pick W. once-completed tell pick W

pub returns-clause-requests : goal.returns-clause-requests
returns-clause-requests g c = run-groups-merge _
