use Rattle.graphql_spec.proofs.requests.outcomes.Goals as goal
use Rattle.graphql_spec.proofs.Existing.{outcome-exists}
use Rattle.graphql_spec.proofs.OneOutcome.{outcome-is-one, query-leaves, refusal-leaves, errors-where-failures, null-has-error}

pub returns-clause-one : goal.returns-clause-one
returns-clause-one g c = λ S. outcome-is-one S

pub returns-clause-query : goal.returns-clause-query
returns-clause-query g c = λ S. query-leaves S

pub returns-clause-errors : goal.returns-clause-errors
returns-clause-errors g c = λ S. errors-where-failures S

pub returns-clause-null : goal.returns-clause-null
returns-clause-null g c = λ S. null-has-error S

pub returns-clause-refusal : goal.returns-clause-refusal
returns-clause-refusal g c = λ S. refusal-leaves S

pub returns-clause-exists : goal.returns-clause-exists
returns-clause-exists g c = λ S. outcome-exists S
