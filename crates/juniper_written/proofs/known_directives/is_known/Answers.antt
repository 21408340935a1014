use Rattle.std.proofs.Common.{◌∙◌, sym}
use Rattle.juniper_written.proofs.Known.{known-first, known-second, known-third, known-last}
use Rattle.juniper_written.proofs.known_directives.is_known.Goals as goal

pub returns-then-eq : goal.returns-then-eq
returns-then-eq c = known-first c.args.name.now (sym c.if-eq.ensures)

pub returns-then-eq-2 : goal.returns-then-eq-2
returns-then-eq-2 c = known-second c.args.name.now (sym c.if-eq.ensures) (sym c.if-eq-2.ensures)

pub returns-then-eq-3 : goal.returns-then-eq-3
returns-then-eq-3 c = known-third c.args.name.now (sym c.if-eq.ensures) (sym c.if-eq-2.ensures) (sym c.if-eq-3.ensures)

pub returns : goal.returns
returns c = c.eq-4.ensures ∙ known-last c.args.name.now (sym c.if-eq.ensures) (sym c.if-eq-2.ensures) (sym c.if-eq-3.ensures)
