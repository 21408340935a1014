use Rattle.std.proofs.Common.{[]}
use Rattle.juniper_written.proofs.Lists.{IsSeenSoFar}
use Rattle.juniper_type_rules.specs.UsesView.{view_use, view_uses}
use Rattle.juniper_type_rules.proofs.places.uses_of_places.Given as goal

abbrev pub invariant-loop-place : goal.invariant-loop-place
invariant-loop-place l = IsSeenSoFar (λ p. view_use p.used) l.places [] l.place-index (view_uses l.uses.items)
