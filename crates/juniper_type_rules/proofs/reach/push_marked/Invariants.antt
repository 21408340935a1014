use Rattle.juniper_written.proofs.Lists.{IsFlatSoFar}
use Rattle.juniper_type_rules.specs.UsesView.{view_used_at, view_numbered, where_marked}
use Rattle.juniper_type_rules.proofs.reach.push_marked.Given as goal

abbrev pub invariant-loop-one : goal.invariant-loop-one
invariant-loop-one l =
    IsFlatSoFar (λ u. where_marked l.marks (view_numbered u)) l.numbered (view_used_at l.fn.uses.items) l.one-index (view_used_at l.uses.items)
