use Rattle.graphql_spec.specs.Shown.{Name}
use Rattle.juniper_written.specs.WrittenView.{named}
use Rattle.juniper_written.specs.SpreadsView.{has_root}
use Rattle.juniper_written.proofs.Testing.{NoneSoFar}
use Rattle.juniper_written.proofs.groups.has_one_of.Given as goal

abbrev pub invariant-loop-name : goal.invariant-loop-name
invariant-loop-name l = NoneSoFar (λ n. n.now) (λ (k : Name). has_root l.root (named l.groups k)) l.names l.name-index
