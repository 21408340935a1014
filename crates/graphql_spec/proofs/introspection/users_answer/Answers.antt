use Rattle.graphql_spec.proofs.RootedUsers.{root_stands, users_execute}
use Rattle.graphql_spec.proofs.DisabledRequests.{disabled_looks_nowhere}
use Rattle.graphql_spec.proofs.introspection.users_answer.Goals as goal

pub returns-clause-root : goal.returns-clause-root
returns-clause-root g c = root_stands

pub returns-clause-execution : goal.returns-clause-execution
returns-clause-execution g c = users_execute

pub returns-clause-disabled : goal.returns-clause-disabled
returns-clause-disabled g c = disabled_looks_nowhere
