use Rattle.std.proofs.Common.{List, drop}
use Rattle.graphql_spec.specs.Documents.{Fragment}
use Rattle.juniper_written.specs.WrittenView.{has_name, view_names}
use Rattle.juniper_written.specs.Order.{IsTaken, is_ready}
use Rattle.juniper_written.specs.SpreadsView.{AreSpreadsOf}
use Rattle.juniper_written.specs.declared.ordered.Taken.{Taken}
use Rattle.juniper_written.proofs.Rounds.{IsRound}
use Rattle.juniper_written.proofs.ordered.Taken.take_ready.Given as goal

abbrev pub invariant-loop-name : goal.invariant-loop-name
invariant-loop-name l =
    ((fs : List Fragment) → AreSpreadsOf l.spreads fs → IsTaken fs (has_name l.fn.self.names) (view_names l.fn.self.order.items) →
    IsTaken fs (has_name l.self.names) (view_names l.self.order.items))
    × IsRound (λ (t : Taken). has_name t.names) (is_ready l.spreads) l.fn.self (view_names l.names) l.self (view_names l.left.items)
    (view_names (drop l.name-index l.names)) l.name-index
