use Rattle.std.proofs.Common.{sym}
use Rattle.juniper_walk.proofs.Standing.{fields-at}
use Rattle.juniper_walk.proofs.plan.Plan.key.Goals as goal

pub returns : goal.returns
returns g c = sym (fields-at c.args.self.now c.args.group.0 c.index-found.result.now c.requires c.index-found.ensures).1
