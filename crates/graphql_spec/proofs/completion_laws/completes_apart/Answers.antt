use Rattle.graphql_spec.proofs.Filling.{reply-fills}
use Rattle.graphql_spec.proofs.CompletedValues.{reply-met}
use Rattle.graphql_spec.proofs.completion_laws.completes_apart.Goals as goal

pub returns : goal.returns
returns g c = λ tell W objects at nulls here above start t r vs ess o.
    (reply-fills tell W objects at nulls here above t r vs ess o, reply-met tell W objects at nulls start here above t r vs ess o)
