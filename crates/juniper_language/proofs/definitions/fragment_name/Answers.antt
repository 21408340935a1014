use Rattle.std.proofs.Common.{refl}
use Rattle.juniper_language.proofs.definitions.fragment_name.Goals as goal

pub returns-then-eq : goal.returns-then-eq
returns-then-eq c known = rw (c.in_ok-name.ensures, ← c.if-eq.ensures) refl
