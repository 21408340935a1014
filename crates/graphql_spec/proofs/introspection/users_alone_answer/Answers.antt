use Rattle.graphql_spec.proofs.SeenServices.{users_outcomes}
use Rattle.graphql_spec.proofs.introspection.users_alone_answer.Goals as goal

pub returns : goal.returns
returns g c = users_outcomes
