use Rattle.std.proofs.Common.{[]}
use Rattle.juniper_written.proofs.Lists.{IsFlatSoFar}
use Rattle.juniper_written.specs.WrittenView.{view_names}
use Rattle.juniper_type_rules.specs.UsesView.{named_in, view_used}
use Rattle.juniper_type_rules.proofs.reach.fragment_names.Given as goal

abbrev pub invariant-loop-used : goal.invariant-loop-used
invariant-loop-used l = IsFlatSoFar (λ u. named_in (view_used u)) l.all [] l.used-index (view_names l.names.items)
