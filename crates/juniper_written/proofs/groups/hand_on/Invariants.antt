use Rattle.std.proofs.Common.{List}
use Rattle.graphql_spec.specs.Documents.{Fragment}
use Rattle.juniper_written.specs.SpreadsView.{AreSpreadsOf, RootLeads}
use Rattle.juniper_written.proofs.groups.hand_on.Given as goal

abbrev pub invariant-loop-inner : goal.invariant-loop-inner
invariant-loop-inner l = (fs : List Fragment) → AreSpreadsOf l.spreads fs → RootLeads l.fn.roots fs → RootLeads l.roots fs
