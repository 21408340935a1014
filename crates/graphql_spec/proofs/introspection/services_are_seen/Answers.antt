use Rattle.graphql_spec.proofs.SeenServices.{seen_outcomes}
use Rattle.graphql_spec.proofs.introspection.services_are_seen.Goals as goal

pub returns : goal.returns
returns g c = seen_outcomes
