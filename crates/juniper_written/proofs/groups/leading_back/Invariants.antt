use Rattle.std.proofs.Common.{List}
use Rattle.graphql_spec.specs.Documents.{Fragment}
use Rattle.juniper_written.specs.SpreadsView.{AreSpreadsOf, LeadToRoot, RootLeads}
use Rattle.juniper_written.proofs.groups.leading_back.Given as goal

abbrev pub invariant-loop-name : goal.invariant-loop-name
invariant-loop-name l =
    ((fs : List Fragment) → RootLeads l.roots fs → RootLeads l.groups fs) × ((fs : List Fragment) → AreSpreadsOf l.spreads fs → LeadToRoot l.groups fs)
