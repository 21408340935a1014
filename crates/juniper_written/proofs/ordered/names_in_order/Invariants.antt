use Rattle.std.proofs.Common.{◌≡◌, ◌||◌, List, is_some, length, true}
use Rattle.graphql_spec.specs.Shown.{Name}
use Rattle.graphql_spec.specs.Documents.{Fragment}
use Rattle.graphql_spec.specs.Fragments.{fragment_of}
use Rattle.juniper_written.specs.WrittenView.{has_name, view_names}
use Rattle.juniper_written.specs.Order.{IsTaken, is_among}
use Rattle.juniper_written.specs.SpreadsView.{AreSpreadsOf}
use Rattle.juniper_written.proofs.ordered.names_in_order.Given as goal

abbrev pub invariant-loop-left : goal.invariant-loop-left
invariant-loop-left l = (fs : List Fragment) → AreSpreadsOf l.spreads fs →
    IsTaken fs (has_name l.taken.names) (view_names l.taken.order.items)
    × ((k : Name) → is_some (fragment_of fs k) ≡ true → (has_name l.taken.names k || is_among (view_names l.left.items) k) ≡ true)

abbrev pub decreases-loop-left : goal.decreases-loop-left
decreases-loop-left l = length l.left.items
