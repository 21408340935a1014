use Rattle.std.proofs.Common.{◌≡◌, ◌∷◌, [], true, sym, ap, subst, ◌∙◌}
use Rattle.std.specs.List.{list_any}
use Rattle.graphql_spec.specs.VariableUses.{is_reached}
use Rattle.juniper_written.specs.WrittenView.{named, view_names}
use Rattle.juniper_written.specs.SpreadsView.{has_root, names_or_none}
use Rattle.juniper_written.proofs.FragmentNames.{same}
use Rattle.juniper_written.proofs.Looking.{found-is, next-is}
use Rattle.juniper_written.proofs.Grouping.{leads-itself, leads-back}
use Rattle.juniper_written.proofs.groups.leads_back.Goals as goal

pub returns-then-eq : goal.returns-then-eq
returns-then-eq c = λ e fs are back.
    subst (λ r. is_reached fs (c.args.name.now ∷ []) r ≡ true) (same c.args.name.now c.args.root.now (sym c.eq.ensures ∙ c.if-eq.true))
    (leads-itself fs c.args.name.now)

pub returns-in-Some : goal.returns-in-Some
unfolding names_or_none
returns-in-Some c = λ e fs are back.
    let is = found-is c.args.spreads.now c.args.name.now c.get.result c.in-Some.names c.get.ensures c.in-Some.is in
    let next = ap view_names c.deref.ensures.value ∙ (sym (ap names_or_none is) ∙ next-is c.args.spreads.now fs are c.args.name.now) in
    leads-back fs c.args.groups.now back c.args.name.now c.args.root.now
    (subst (λ l. list_any (λ i. has_root c.args.root.now (named c.args.groups.now i)) l ≡ true) next (sym c.has_one_of.ensures ∙ e))
