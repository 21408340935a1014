use Rattle.std.proofs.Common.{sym, subst}
use Rattle.juniper_merging.specs.Nodes.{Says, list_of}
use Rattle.juniper_merging.specs.declared.clash.Clash.TheVariants as clash
use Rattle.juniper_merging.proofs.Joint.{says-none}
use Rattle.juniper_merging.proofs.conflicts.Conflicts.below.Goals as goal

pub returns-in_ok-clash-in-Some : goal.returns-in_ok-clash-in-Some
unfolding list_of
returns-in_ok-clash-in-Some c vs H known =
    subst (λ o. Says vs (list_of H o) c.in_ok-clash-in-Some.clash) (sym c.in-Some.is) (c.in_ok-clash-in-Some.ensures vs H known)

pub returns-in-None : goal.returns-in-None
unfolding list_of
returns-in-None c vs H known = subst (λ o. Says vs (list_of H o) clash.Nothing) (sym c.in-None.is) (says-none vs)
