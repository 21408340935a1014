use Rattle.std.proofs.Common.{[]}
use Rattle.juniper_written.proofs.Lists.{IsFlatSoFar}
use Rattle.juniper_type_rules.specs.UsesView.{numbered_of, view_used, view_all_numbered}
use Rattle.juniper_type_rules.proofs.reach.numbered_in.Given as goal

abbrev pub invariant-loop-used : goal.invariant-loop-used
invariant-loop-used l = IsFlatSoFar (λ u. numbered_of l.numbers (view_used u)) l.all [] l.used-index (view_all_numbered l.numbered.items)
