use Rattle.std.proofs.Common.{◌≡◌, false, true, refl, sym, subst, arith}
use Rattle.std.proofs.lemmas.Bool.{ltb-false}
use Rattle.juniper_written.specs.WrittenView.{view_names}
use Rattle.juniper_written.specs.SpreadsView.{names_or_none}
use Rattle.juniper_written.proofs.FragmentNames.{has, true_false}
use Rattle.juniper_written.proofs.Looking.{found-is, missing-is}
use Rattle.juniper_written.proofs.groups.rises.Goals as goal

pub returns-in-Some : goal.returns-in-Some
unfolding names_or_none
returns-in-Some c = λ e i h.
    let is = found-is c.args.spreads.now c.args.name.now c.get.result c.in-Some.names c.get.ensures c.in-Some.is in
    let most = c.greatest.ensures i (subst (λ l. has (view_names l) i ≡ true) (sym c.deref.ensures.value) (subst (λ o. has (names_or_none o) i ≡ true) is h)) in
    let own = c.rank.ensures in
    let less = ltb-false _ _ e in
    omega (arith, most, own, less)

pub returns-in-None : goal.returns-in-None
unfolding names_or_none
returns-in-None c = λ e i h.
    let is = missing-is c.args.spreads.now c.args.name.now c.get.result c.get.ensures c.in-None.is in
    true_false false (subst (λ o. has (names_or_none o) i ≡ true) is h) refl
