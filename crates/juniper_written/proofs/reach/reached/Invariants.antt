use Rattle.std.proofs.Common.{List, ◌+◌}
use Rattle.std.proofs.Common.{length}
use Rattle.graphql_spec.specs.Documents.{Fragment}
use Rattle.juniper_written.specs.WrittenView.{entries_of, has_name, view_names}
use Rattle.juniper_written.specs.SpreadsView.{AreSpreadsOf}
use Rattle.juniper_written.proofs.Searching.{IsSearched}
use Rattle.juniper_written.proofs.Weights.{weight}
use Rattle.juniper_written.proofs.reach.reached.Given as goal

abbrev pub invariant-loop-name : goal.invariant-loop-name
invariant-loop-name l = (fs : List Fragment) → AreSpreadsOf l.spreads fs → IsSearched fs (view_names l.fn.names) (has_name l.seen) (view_names l.left.items)

abbrev pub decreases-loop-name : goal.decreases-loop-name
decreases-loop-name l = weight (has_name l.seen) (entries_of l.spreads) + length l.left.items
