use Rattle.graphql_spec.specs.Requests.{choose}
use Rattle.juniper.proofs.operation.choose.Goals as goal

pub returns-in-Some-operation_named : goal.returns-in-Some-operation_named
unfolding choose
returns-in-Some-operation_named g c = rw c.in-Some.is c.in-Some-operation_named.ensures

pub returns-in-None-operation_named : goal.returns-in-None-operation_named
unfolding choose
returns-in-None-operation_named g c = rw c.in-Some.is c.in-None-operation_named.ensures

pub returns-in-None : goal.returns-in-None
unfolding choose
returns-in-None g c = rw c.in-None.is c.only_operation.ensures
