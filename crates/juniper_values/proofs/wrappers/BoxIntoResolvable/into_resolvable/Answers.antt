use Rattle.std.proofs.Common.{sym}
use Rattle.juniper_values.proofs.wrappers.BoxIntoResolvable.into_resolvable.Goals as goal

pub returns : goal.returns
returns g c = rw (sym c.into_inner.ensures) c.into_resolvable.ensures
