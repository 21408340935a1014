use Rattle.std.proofs.Common.{sym}
use Rattle.juniper_assemble.proofs.Parting.{below-none, placed-as}
use Rattle.juniper_assemble.proofs.apart.take_apart.Goals as goal

pub returns : goal.returns
returns g c = placed-as _ _ _ _ _ _ _ _ _ _ (sym (below-none _ _ c.new-positions.ensures.items)) c.in_ok-skeleton.ensures.apart
