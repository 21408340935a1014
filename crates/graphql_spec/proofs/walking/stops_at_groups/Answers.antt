use Rattle.graphql_spec.proofs.walking.stops_at_groups.Goals as goal
use Rattle.graphql_spec.proofs.Running.{may-stop-at, may-stop-after}

pub returns-clause-at : goal.returns-clause-at
returns-clause-at g c = λ tell pick M T. may-stop-at M T tell pick

pub returns-clause-after : goal.returns-clause-after
returns-clause-after g c = λ tell pick M T. may-stop-after M T tell pick
