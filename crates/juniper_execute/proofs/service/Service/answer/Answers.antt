use Rattle.std.proofs.Common.{refl}
use Rattle.graphql_spec.specs.Resolvers.{world_of}
use Rattle.juniper_execute.proofs.service.Service.answer.Goals as goal

pub answer-requires-clause-ready : goal.answer-requires-clause-ready
unfolding world_of
answer-requires-clause-ready g c = record { collector = c.requires.ready; same = refl; variables = refl }
