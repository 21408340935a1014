use Rattle.std.proofs.Common.{refl}
use Rattle.juniper_language.proofs.selections.aliased.Goals as goal

pub returns : goal.returns
returns c = rw (c.in_ok-next.ensures, c.in_ok-name.ensures) refl
