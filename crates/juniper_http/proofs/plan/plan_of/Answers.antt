use Rattle.std.proofs.Common.{refl, sym}
use Rattle.juniper_http.proofs.plan.plan_of.Goals as goal

pub returns-in-ShowPage : goal.returns-in-ShowPage
returns-in-ShowPage c = (tt, (c.in_ok-facts.facts, c.in_ok-facts.ensures, rw (sym c.decide.ensures.table) (rw c.in-ShowPage.is refl)))

pub returns-in-TellMethods : goal.returns-in-TellMethods
returns-in-TellMethods c = (tt, (c.in_ok-facts.facts, c.in_ok-facts.ensures, rw (sym c.decide.ensures.table) (rw c.in-TellMethods.is refl)))

pub returns-in-Refuse : goal.returns-in-Refuse
returns-in-Refuse c = (tt, (c.in_ok-facts.facts, c.in_ok-facts.ensures, rw (sym c.decide.ensures.table) (rw c.in-Refuse.is refl)))
