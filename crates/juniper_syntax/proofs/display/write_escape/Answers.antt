use Rattle.std.proofs.Common.{arith}
use Rattle.std.proofs.Output.{has_written_of_eq}
use Rattle.juniper_syntax.proofs.Escapes.{control_text}
use Rattle.juniper_syntax.proofs.display.write_escape.Goals as goal

pub returns-in_default : goal.returns-in_default
returns-in_default g c escaped plain ok =
    let wrote = rw (c.in_radix.ensures, c.laid_out.ensures) at c.write.ensures.writes in
    has_written_of_eq _ _ _ _ _ (control_text c.args.byte escaped (omega arith) (omega arith) (omega arith) (omega arith) (omega arith) (omega arith)
    (omega arith)) (wrote plain ok)
