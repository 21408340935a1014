use Rattle.std.proofs.Common.{◌≡◌, ◌∷◌, [], Bor, List, ℕ, get_or, true, sym, ap, subst, ◌∙◌}
use Rattle.graphql_spec.specs.VariableUses.{is_reached}
use Rattle.juniper_written.specs.WrittenView.{named, view_names}
use Rattle.juniper_written.specs.SpreadsView.{names_or_none}
use Rattle.juniper_written.proofs.FragmentNames.{has}
use Rattle.juniper_written.proofs.Looking.{found-is, got, next-is}
use Rattle.juniper_written.proofs.Testing.{has-at}
use Rattle.juniper_written.proofs.Searching.{reached-next}
use Rattle.juniper_written.proofs.Grouping.{put-holds}
use Rattle.juniper_written.proofs.groups.hand_on.Goals as goal

pub loop-inner-init : goal.loop-inner-init
loop-inner-init c = λ fs are led. led

pub loop-inner-preserved : goal.loop-inner-preserved
unfolding names_or_none
loop-inner-preserved c = λ fs are led.
    let none : Bor (List ℕ) = record { ref_ptr = (0, 0); now = [] } in
    let inner = get_or c.deref-inner-items.result.now c.loop-inner.inner-index none in
    let root = c.in-Some.root.now in
    let own = led c.args.name.now root (got c.get.result (named c.args.roots.now c.args.name.now) c.in-Some.root c.get.ensures c.in-Some.is) in
    let is = found-is c.args.spreads.now c.args.name.now c.get-2.result c.in-Some-get.names c.get-2.ensures c.in-Some-get.is in
    let next = ap view_names c.deref-inner-items.ensures.value ∙ (sym (ap names_or_none is) ∙ next-is c.args.spreads.now fs are c.args.name.now) in
    let spread = subst (λ l. has l inner.now ≡ true) next (has-at c.deref-inner-items.result.now c.loop-inner.inner-index none c.loop-inner-test.true) in
    put-holds (λ k x. is_reached fs (x.name.now ∷ []) k ≡ true) (named c.loop-inner.roots) (named c.put_first.new.self) inner.now root
    c.in_ok-put_first-in-Some-get.ensures (c.loop-inner.invariant fs are led)
    (reached-next fs (root.name.now ∷ []) c.args.name.now inner.now own spread)
