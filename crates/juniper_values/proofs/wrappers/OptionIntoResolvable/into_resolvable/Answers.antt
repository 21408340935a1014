use Rattle.std.proofs.Common.{ap, sym}
use Rattle.graphql_spec.specs.Resolvers.{answered}
use Rattle.juniper_values.proofs.Resolutions.{view-Null}
use Rattle.juniper_values.proofs.wrappers.OptionIntoResolvable.into_resolvable.Goals as goal

pub returns-in-Some : goal.returns-in-Some
returns-in-Some g c = rw c.in-Some.is c.into_resolvable.ensures

pub returns-in-None : goal.returns-in-None
returns-in-None g c = rw c.in-None.is (sym (ap answered (view-Null g.S.ScalarValue.shown)))
