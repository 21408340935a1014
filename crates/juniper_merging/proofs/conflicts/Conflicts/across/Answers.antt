use Rattle.std.proofs.Common.{sym, subst}
use Rattle.juniper_merging.specs.Nodes.{SaysBoth, list_of}
use Rattle.juniper_merging.specs.declared.clash.Clash.TheVariants as clash
use Rattle.juniper_merging.proofs.Joint.{nothing-says-both}
use Rattle.juniper_merging.proofs.conflicts.Conflicts.across.Goals as goal

pub returns-in_ok-clash-in-Some-Some : goal.returns-in_ok-clash-in-Some-Some
unfolding list_of
returns-in_ok-clash-in-Some-Some c vs H known =
    let x = c.in_ok-clash-in-Some-Some.clash in
    subst (λ o. SaysBoth vs (list_of H o) (list_of H c.args.second) x) (sym c.in-Some-Some.is-0)
    (subst (λ o. SaysBoth vs (H c.in-Some-Some.a) (list_of H o) x) (sym c.in-Some-Some.is-1) (c.in_ok-clash-in-Some-Some.ensures vs H known))

pub returns-in-Some-None : goal.returns-in-Some-None
unfolding list_of
returns-in-Some-None c vs H known =
    subst (λ o. SaysBoth vs (list_of H c.args.first) (list_of H o) clash.Nothing) (sym c.in-Some-None.is-1)
    (nothing-says-both vs (list_of H c.args.first) _ (λ m n i j p q. absurd q))

pub returns-in-None-default : goal.returns-in-None-default
unfolding list_of
returns-in-None-default c vs H known =
    subst (λ o. SaysBoth vs (list_of H o) (list_of H c.args.second) clash.Nothing) (sym c.in-None-default.is-0)
    (nothing-says-both vs _ (list_of H c.args.second) (λ m n i j p q. absurd p))
