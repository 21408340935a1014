use Rattle.graphql_spec.proofs.requests.children_cover.Goals as goal
use Rattle.graphql_spec.proofs.Covering.{occurrences-are-children, keys-are-children, typed-is-covered, response-is-covered}

pub returns-clause-occurrences : goal.returns-clause-occurrences
returns-clause-occurrences g c = occurrences-are-children

pub returns-clause-keys : goal.returns-clause-keys
returns-clause-keys g c = keys-are-children

pub returns-clause-data : goal.returns-clause-data
returns-clause-data g c = typed-is-covered

pub returns-clause-responses : goal.returns-clause-responses
returns-clause-responses g c = λ S. response-is-covered S
