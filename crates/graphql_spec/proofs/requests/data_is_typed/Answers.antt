use Rattle.graphql_spec.proofs.requests.data_is_typed.Goals as goal
use Rattle.graphql_spec.proofs.HeldData.{data-is-typed, response-is-typed}

pub returns-clause-queries : goal.returns-clause-queries
returns-clause-queries g c = λ s. data-is-typed _ s

pub returns-clause-responses : goal.returns-clause-responses
returns-clause-responses g c = λ S. response-is-typed S
