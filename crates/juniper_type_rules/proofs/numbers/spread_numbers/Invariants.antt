use Rattle.std.proofs.Common.{[], List}
use Rattle.graphql_spec.specs.Documents.{Fragment}
use Rattle.juniper_written.specs.SpreadsView.{AreSpreadsOf}
use Rattle.juniper_written.proofs.Lists.{IsSeenSoFar}
use Rattle.juniper_type_rules.specs.Numbers.{spread_numbers_of, view_lists}
use Rattle.juniper_type_rules.proofs.numbers.spread_numbers.Given as goal

abbrev pub invariant-loop-index : goal.invariant-loop-index
invariant-loop-index l = (fs : List Fragment) → AreSpreadsOf l.spreads fs →
    IsSeenSoFar (λ n. spread_numbers_of l.numbers fs n.now) l.names.items [] l.index (view_lists l.lists.items)
