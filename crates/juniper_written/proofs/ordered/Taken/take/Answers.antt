use Rattle.std.proofs.Common.{◌≡◌, ◌++◌, ◌∷◌, [], refl, sym, subst, ◌∙◌, rules}
use Rattle.juniper_syntax.proofs.Lists.{seen-push}
use Rattle.juniper_written.specs.WrittenView.{has_name, view_names}
use Rattle.juniper_written.specs.Order.{IsTaken, is_ready}
use Rattle.juniper_written.proofs.Looking.{all-ready}
use Rattle.juniper_written.proofs.Taking.{taken-next}
use Rattle.juniper_written.proofs.ordered.Taken.take.Goals as goal

pub returns-then-contains-clause-is : goal.returns-then-contains-clause-is
returns-then-contains-clause-is c = sym c.if-contains.true ∙ c.contains.ensures

pub returns-then-not-are_done-clause-is : goal.returns-then-not-are_done-clause-is
returns-then-not-are_done-clause-is c = sym c.if-contains.false ∙ c.contains.ensures

pub returns-then-not-are_done-clause-not_ready : goal.returns-then-not-are_done-clause-not_ready
unfolding is_ready
returns-then-not-are_done-clause-not_ready c = λ e. (refl, sym c.are_done.ensures ∙ c.if-not-are_done.true)

pub returns-clause-taken : goal.returns-clause-taken
returns-clause-taken c = λ fs are t.
    let more : c.push.new.self.items ≡ c.args.self.now.order.items ++ c.args.name ∷ [] = search rules in
    subst (λ l. IsTaken fs (has_name c.insert.new.self) l) (sym (seen-push (λ n. n.now) c.args.self.now.order.items c.push.new.self.items c.args.name more))
    (taken-next fs (has_name c.args.self.now.names) (has_name c.insert.new.self) c.args.name.now
    (view_names c.args.self.now.order.items) t c.in_ok-insert.ensures.added
    (sym c.contains.ensures ∙ c.if-contains.false) (all-ready c.args.spreads.now fs are (has_name c.args.self.now.names) c.args.name.now
    (sym c.are_done.ensures ∙ c.if-not-are_done.false)))
