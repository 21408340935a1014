use Rattle.std.proofs.Common.{refl, sym, ap, ◌∙◌, arith, option_map}
use Rattle.juniper_intro.specs.Handles.{taken_off}
use Rattle.juniper_intro.specs.References.{view_reference}
use Rattle.juniper_intro.proofs.Looked.{off-end, off-next}
use Rattle.juniper_intro.proofs.reference.Reference.without.Goals as goal

pub loop-turn-init : goal.loop-turn-init
unfolding taken_off
loop-turn-init c = refl

pub loop-turn-preserved : goal.loop-turn-preserved
loop-turn-preserved c = off-next _ _ _ _ (sym (ap (option_map view_reference) c.in-Some.is) ∙ c.of_type.ensures) c.loop-turn.invariant

pub returns-in-None : goal.returns-in-None
returns-in-None c =
    off-end _ _ _ _ (omega (arith, c.loop-turn-test.true)) (sym (ap (option_map view_reference) c.in-None.is) ∙ c.of_type.ensures) c.loop-turn.invariant
