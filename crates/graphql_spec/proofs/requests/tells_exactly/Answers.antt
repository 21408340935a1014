use Rattle.graphql_spec.proofs.requests.tells_exactly.Goals as goal
use Rattle.graphql_spec.proofs.Exact.{exact-tells, outcome-tells}

pub returns-clause-answers : goal.returns-clause-answers
returns-clause-answers g c = exact-tells

pub returns-clause-outcomes : goal.returns-clause-outcomes
returns-clause-outcomes g c = λ S. outcome-tells S
