use Rattle.std.proofs.Common.{refl}
use Rattle.juniper_language.proofs.references.bang.Goals as goal

pub returns : goal.returns
returns c = rw (← c.if-not-sees.ensures, c.in_ok-next.ensures) refl
