use Rattle.graphql_spec.proofs.requests.steps_decide.Goals as goal
use Rattle.graphql_spec.proofs.Deciding.{steps-decide, known-outcome}

pub returns-clause-steps : goal.returns-clause-steps
returns-clause-steps g c = λ S. steps-decide S

pub returns-clause-known : goal.returns-clause-known
returns-clause-known g c = λ S. known-outcome S
