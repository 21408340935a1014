use Rattle.std.proofs.Common.{List}
use Rattle.graphql_spec.specs.Documents.{Fragment}
use Rattle.juniper_written.specs.SpreadsView.{AreSpreadsOf, RootLeads}
use Rattle.juniper_written.proofs.groups.roots_before.Given as goal

abbrev pub invariant-loop-index : goal.invariant-loop-index
invariant-loop-index l = (fs : List Fragment) → AreSpreadsOf l.spreads fs → RootLeads l.roots fs
