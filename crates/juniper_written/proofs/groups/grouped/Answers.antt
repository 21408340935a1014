use Rattle.std.proofs.Common.{◌≡◌, ◌∷◌, [], true, sym, subst}
use Rattle.graphql_spec.specs.VariableUses.{is_reached}
use Rattle.juniper_written.specs.WrittenView.{view_names}
use Rattle.juniper_written.proofs.FragmentNames.{has, spreads_known}
use Rattle.juniper_written.proofs.Looking.{next-is}
use Rattle.juniper_written.proofs.Rounds.{known-among}
use Rattle.juniper_written.proofs.Grouping.{leads-itself}
use Rattle.juniper_written.proofs.groups.grouped.Goals as goal

pub returns-then-never_rise : goal.returns-then-never_rise
returns-then-never_rise c = λ fs are. record {
  onward = λ k x e. subst (λ j. is_reached fs (j ∷ []) k ≡ true) (sym (c.in_ok-alone.ensures k x e)) (leads-itself fs k);
  back = λ k x e. subst (λ j. is_reached fs (k ∷ []) j ≡ true) (sym (c.in_ok-alone.ensures k x e)) (leads-itself fs k);
  falls =
      λ k i h.
      let there = known-among c.args.spreads.now fs are c.in_ok-names.names.items c.in_ok-names.ensures k (spreads_known fs k i h) in
      c.never_rise.ensures c.if-never_rise.true k (subst (λ l. has (view_names l) k ≡ true) (sym c.deref-3.ensures.value) there) i
      (subst (λ l. has l i ≡ true) (sym (next-is c.args.spreads.now fs are k)) h);
}
