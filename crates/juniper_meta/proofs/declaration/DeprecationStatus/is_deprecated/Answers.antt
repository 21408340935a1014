use Rattle.std.proofs.Common.{rules}
use Rattle.graphql_spec.specs.Introspected.{is_deprecated}
use Rattle.juniper_meta.proofs.declaration.DeprecationStatus.is_deprecated.Goals as goal

pub returns-in-Deprecated : goal.returns-in-Deprecated
unfolding is_deprecated
returns-in-Deprecated c = search rules
