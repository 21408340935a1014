use Rattle.std.proofs.Common.{◌∙◌}
use Rattle.juniper_written.proofs.rules.leads_to.Goals as goal

pub returns-in-Some : goal.returns-in-Some
returns-in-Some c = λ fs are groups. c.told.ensures fs groups c.in-Some.leads c.in-Some.is

pub returns-in_ok-found-in-None : goal.returns-in_ok-found-in-None
returns-in_ok-found-in-None c = λ fs are groups. c.contains.ensures ∙ c.in_ok-found-in-None.ensures fs are c.args.name.now
