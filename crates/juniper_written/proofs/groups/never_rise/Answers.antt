use Rattle.std.proofs.Common.{[], Bor, List, ℕ, inr, false, refl}
use Rattle.juniper_written.specs.SpreadsView.{Falls}
use Rattle.juniper_written.proofs.FragmentNames.{true_false}
use Rattle.juniper_written.proofs.Testing.{holds-next, holds-ends}
use Rattle.juniper_written.proofs.groups.never_rise.Goals as goal

abbrev no-name : Bor (List ℕ)
no-name = record { ref_ptr = (0, 0); now = [] }

pub loop-name-init : goal.loop-name-init
loop-name-init c = λ k h. inr h

pub loop-name-preserved : goal.loop-name-preserved
loop-name-preserved c =
    let falls = Falls c.args.spreads.now c.args.groups.now in
    holds-next c.args.names.now falls falls c.loop-name.name-index no-name c.loop-name-test.true (λ k f. f) (c.rises.ensures c.if-rises.false)
    c.loop-name.invariant

pub returns-then-rises : goal.returns-then-rises
returns-then-rises c = λ e. true_false false e refl

pub returns : goal.returns
returns c = λ e. holds-ends c.args.names.now (Falls c.args.spreads.now c.args.groups.now) c.loop-name.name-index c.loop-name-test.false c.loop-name.invariant
