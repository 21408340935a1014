use Rattle.graphql_spec.proofs.ErrorOrder.{compare_total}
use Rattle.juniper_conversions.proofs.ErrorOrder.{errors_equal, errors_same}
use Rattle.juniper_conversions.proofs.error_laws.errors_are_ordered.Goals as goal

pub returns-clause-order : goal.returns-clause-order
returns-clause-order c = compare_total

pub returns-clause-equal : goal.returns-clause-equal
returns-clause-equal c = errors_equal

pub returns-clause-same : goal.returns-clause-same
returns-clause-same c = errors_same
