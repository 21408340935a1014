use Rattle.std.proofs.Common.{refl}
use Rattle.graphql_spec.specs.Resolvers.{world_of}
use Rattle.juniper_execute.proofs.service.Service.complete_value.Goals as goal

pub complete_value-requires-clause-ready : goal.complete_value-requires-clause-ready
unfolding world_of
complete_value-requires-clause-ready g c = record { collector = c.requires.ready; same = refl; variables = refl }
