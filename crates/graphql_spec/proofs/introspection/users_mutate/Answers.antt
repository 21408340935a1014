use Rattle.graphql_spec.proofs.RootedMutations as lemmas
use Rattle.graphql_spec.proofs.introspection.users_mutate.Goals as goal

pub returns : goal.returns
returns g c = lemmas.users_mutate
