use Rattle.std.proofs.Common.{◌||◌, not, is_some}
use Rattle.graphql_spec.specs.Shown.{Name}
use Rattle.juniper_written.specs.WrittenView.{has_name}
use Rattle.juniper_written.specs.SpreadsView.{spread_by}
use Rattle.juniper_written.proofs.Testing.{AllSoFar}
use Rattle.juniper_written.proofs.ordered.all_done.Given as goal

abbrev pub invariant-loop-name : goal.invariant-loop-name
invariant-loop-name l = AllSoFar (λ n. n.now) (λ (k : Name). has_name l.done k || not (is_some (spread_by l.spreads k))) l.names l.name-index
