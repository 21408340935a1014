use Rattle.graphql_spec.proofs.SeenNodes.{seen_alike}
use Rattle.graphql_spec.proofs.introspection.nodes_are_seen.Goals as goal

pub returns : goal.returns
returns g c = seen_alike
