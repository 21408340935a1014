use Rattle.std.proofs.Common.{[]}
use Rattle.juniper_merging.specs.Groups.{group_in}
use Rattle.juniper_merging.proofs.Few.{few-none}
use Rattle.juniper_merging.proofs.Grouping.{empty-groups}
use Rattle.juniper_merging.proofs.heads.at_most_twice.Goals as goal

pub returns : goal.returns
returns c =
    (c.in_ok-put_few.ensures [] (few-none c.new-few.result.items (group_in c.new-groups.result) c.new-few.ensures.items
    (empty-groups c.new-groups.result c.new-groups.ensures.empty))).alike
