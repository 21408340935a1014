use Rattle.std.proofs.Common.{◌≡◌, Some, subst}
use Rattle.std.specs.List.{slice_get}
use Rattle.juniper_merging.proofs.Answered.{none-pushed}
use Rattle.juniper_merging.proofs.Looked.{none-some}
use Rattle.juniper_merging.proofs.conflicts.nothing_known.Goals as goal

pub loop-place-init : goal.loop-place-init
loop-place-init c p o e = none-some (subst (λ l. slice_get l p ≡ Some o) c.in_ok-row.ensures.items e)

pub loop-place-preserved : goal.loop-place-preserved
loop-place-preserved c = none-pushed c.loop-place.row.items c.push.new.self.items c.in_ok-push.ensures.items c.loop-place.invariant
