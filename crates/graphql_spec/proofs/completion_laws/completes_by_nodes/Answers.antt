use Rattle.graphql_spec.proofs.completion_laws.completes_by_nodes.Goals as goal
use Rattle.graphql_spec.proofs.ByNodes.{occurrence-by-nodes, group-by-nodes, group-by-spots}

pub returns-clause-occurrence : goal.returns-clause-occurrence
returns-clause-occurrence g c = λ W. occurrence-by-nodes W

pub returns-clause-group : goal.returns-clause-group
returns-clause-group g c = λ W. group-by-nodes W

pub returns-clause-spots : goal.returns-clause-spots
returns-clause-spots g c = λ W. group-by-spots W
