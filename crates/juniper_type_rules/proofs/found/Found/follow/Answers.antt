use Rattle.std.proofs.Common.{subst, sym, ◌∙◌}
use Rattle.std.proofs.lemmas.Result.{on_ok_weaker}
use Rattle.juniper_type_rules.specs.Numbers.{Adds}
use Rattle.juniper_type_rules.proofs.Growing.{adds-none}
use Rattle.juniper_type_rules.proofs.Walking.{list-found, list-missing}
use Rattle.juniper_type_rules.proofs.found.Found.follow.Goals as goal

pub returns-in-Some : goal.returns-in-Some
returns-in-Some c = on_ok_weaker c.add_all.result (λ says n found.
    let added = says n found in (
      added.0,
      subst (λ l. Adds n l c.args.self.now.order.items c.add_all.new.self.order.items)
          (c.deref.ensures.value ∙ list-found c.args.lists.now c.args.number c.get.result c.in-Some.numbers c.get.ensures.lookup.3 c.in-Some.is) added.1,
    )) c.add_all.ensures

pub returns-in-None : goal.returns-in-None
returns-in-None c = λ n found. (
  found,
  subst (λ l. Adds n l c.args.self.now.order.items c.args.self.now.order.items)
      (sym (list-missing c.args.lists.now c.args.number c.get.result c.get.ensures.lookup.3 c.in-None.is)) (adds-none n c.args.self.now.order.items),
)
