use Rattle.std.proofs.Common.{not, is_some}
use Rattle.graphql_spec.specs.Shown.{Name}
use Rattle.juniper_written.specs.SpreadsView.{spread_by}
use Rattle.juniper_written.proofs.Testing.{NoneSoFar}
use Rattle.juniper_written.proofs.rules.has_unknown.Given as goal

abbrev pub invariant-loop-name : goal.invariant-loop-name
invariant-loop-name l = NoneSoFar (λ n. n.now) (λ (k : Name). not (is_some (spread_by l.spreads k))) l.names l.name-index
