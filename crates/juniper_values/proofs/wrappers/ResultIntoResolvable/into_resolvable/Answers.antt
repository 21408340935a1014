use Rattle.std.proofs.Common.{ap, sym}
use Rattle.graphql_spec.specs.Resolvers.{failed}
use Rattle.juniper_values.proofs.wrappers.ResultIntoResolvable.into_resolvable.Goals as goal

pub returns-in-Ok : goal.returns-in-Ok
returns-in-Ok g c = rw c.in-Ok.is c.into_resolvable.ensures

pub returns-in_ok-into_field_error-in-Err : goal.returns-in_ok-into_field_error-in-Err
returns-in_ok-into_field_error-in-Err g c = rw c.in-Err.is (ap failed (sym c.in_ok-into_field_error-in-Err.ensures))
