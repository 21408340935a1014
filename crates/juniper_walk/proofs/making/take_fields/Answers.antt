use Rattle.juniper_walk.proofs.Taken.{fields-taken}
use Rattle.juniper_walk.proofs.making.take_fields.Goals as goal

pub returns-in-Some-clause-taken : goal.returns-in-Some-clause-taken
returns-in-Some-clause-taken g c = fields-taken c.args.groups.now c.remove.new.self c.args.key.now c.remove.ensures.updates

pub returns-in-None-clause-taken : goal.returns-in-None-clause-taken
returns-in-None-clause-taken g c = fields-taken c.args.groups.now c.remove.new.self c.args.key.now c.remove.ensures.updates
