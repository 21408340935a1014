use Rattle.std.proofs.Common.{refl, rules}
use Rattle.juniper_merging.proofs.Gathered.{whole-put}
use Rattle.juniper_merging.proofs.sets.Gathering.put_into.Goals as goal

pub returns : goal.returns
returns c is all so =
    whole-put c.args.sets.now.items c.args.self all is so _ _ _ refl refl c.in_ok-push.ensures.items (search rules)
