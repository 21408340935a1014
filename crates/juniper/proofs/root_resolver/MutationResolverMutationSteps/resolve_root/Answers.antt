use Rattle.juniper.proofs.StepsLeft.{may-leave}
use Rattle.juniper.proofs.root_resolver.MutationResolverMutationSteps.resolve_root.Goals as goal

pub returns-clause-context : goal.returns-clause-context
returns-clause-context g c =
    may-leave c.resolve_root-answered.result c.rooted_answer.result _ _ _ c.resolve_root-answered.ensures.context c.rooted_answer.ensures.memory
