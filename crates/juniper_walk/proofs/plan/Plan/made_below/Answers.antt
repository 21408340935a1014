use Rattle.std.proofs.Common.{sym, ap, ◌∙◌}
use Rattle.juniper_walk.specs.PlanLists.{named_in}
use Rattle.juniper_walk.proofs.Kept.{made-is}
use Rattle.juniper_walk.proofs.plan.Plan.made_below.Goals as goal

pub returns : goal.returns
returns g c =
    c.find_made.ensures ∙ ap (named_in c.args.concrete.now) (c.deref.ensures.value
    ∙ sym (made-is c.args.self.now c.args.group.0 c.index-made.result.now c.requires c.index-made.ensures))
