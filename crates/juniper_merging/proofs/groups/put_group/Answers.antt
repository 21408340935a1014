use Rattle.juniper_merging.specs.Groups.{numbers_of}
use Rattle.juniper_merging.proofs.Grouping.{group-put}
use Rattle.juniper_merging.proofs.groups.put_group.Goals as goal

pub returns : goal.returns
unfolding numbers_of
returns c = group-put c.args.groups.now c.insert.new.self c.args.key _ c.in_ok-insert.ensures.updates
