use Rattle.graphql_spec.proofs.valid_merges.Goals as goal
use Rattle.graphql_spec.proofs.ValidFields.{valid_fields_are_declared}
use Rattle.graphql_spec.proofs.ValidSets.{valid_sets_may_merge, valid_sets_merge, valid_operations_merge}

pub returns-clause-sets : goal.returns-clause-sets
returns-clause-sets g c = valid_sets_may_merge

pub returns-clause-types : goal.returns-clause-types
returns-clause-types g c = valid_sets_merge

pub returns-clause-operations : goal.returns-clause-operations
returns-clause-operations g c = valid_operations_merge

pub returns-clause-fields : goal.returns-clause-fields
returns-clause-fields g c = valid_fields_are_declared
