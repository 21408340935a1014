use Rattle.std.proofs.Common.{rules}
use Rattle.graphql_spec.specs.Introspected.{reason_of}
use Rattle.juniper_meta.proofs.declaration.DeprecationStatus.reason.Goals as goal

pub returns-in-Deprecated-Some : goal.returns-in-Deprecated-Some
unfolding reason_of
returns-in-Deprecated-Some c = search rules
