use Rattle.std.proofs.Common.{ap, ◌∙◌, sym}
use Rattle.juniper_merging.specs.Groups.{numbers_of}
use Rattle.juniper_merging.proofs.Grouping.{group-found, group-put}
use Rattle.juniper_merging.proofs.groups.take_group.Goals as goal

pub returns-in-Some-clause-numbers : goal.returns-in-Some-clause-numbers
unfolding numbers_of
returns-in-Some-clause-numbers c = ap numbers_of (sym c.in-Some.is) ∙ group-found c.args.groups.now c.args.key c.remove.result c.remove.ensures.value

pub returns-in-Some-clause-taken : goal.returns-in-Some-clause-taken
unfolding numbers_of
returns-in-Some-clause-taken c = group-put c.args.groups.now c.remove.new.self c.args.key _ c.remove.ensures.updates

pub returns-in-None-clause-numbers : goal.returns-in-None-clause-numbers
unfolding numbers_of
returns-in-None-clause-numbers c =
    c.new.ensures.items ∙ (ap numbers_of (sym c.in-None.is) ∙ group-found c.args.groups.now c.args.key c.remove.result c.remove.ensures.value)

pub returns-in-None-clause-taken : goal.returns-in-None-clause-taken
unfolding numbers_of
returns-in-None-clause-taken c = group-put c.args.groups.now c.remove.new.self c.args.key _ c.remove.ensures.updates
